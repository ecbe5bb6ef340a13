use Rattle.std.proofs.Common.{◌≡◌, filter, take}
use Rattle.obligation_tree.specs.Nodes.{is_live_at}
use Rattle.obligation_tree.proofs.closing.live_among.Given as goal

abbrev pub invariant-loop-number : goal.invariant-loop-number
invariant-loop-number l = l.live.items ≡ filter (is_live_at l.nodes) (take l.number-index l.numbers)
