use Rattle.std.proofs.Common.{◌≡◌, ◌==◌, not, filter, take}
use Rattle.obligation_tree.proofs.index.replaced.Given as goal

abbrev pub invariant-loop-number : goal.invariant-loop-number
invariant-loop-number l = l.others.items ≡ filter (λ number. not (l.one == number)) (take l.number-index l.numbers)
