use Rattle.std.proofs.Common.{◌≡◌, ◌*◌, ◌^◌, ◌≤◌, drop, nat_abs, map, fold, ◌+ℤ◌}
use Rattle.term_tree.specs.Operators.{sum_of}
use Rattle.term_check.specs.Rules.{worth}
use Rattle.term_check.proofs.values.sum.Given as goal

abbrev pub invariant-loop-part : goal.invariant-loop-part
invariant-loop-part l = (fold (λ a n. a +ℤ n) l.sum (map worth (drop l.part-index l.parts)) ≡ sum_of (map worth l.parts)) × (nat_abs l.sum ≤ 2 ^ 63 * l.part-index)
