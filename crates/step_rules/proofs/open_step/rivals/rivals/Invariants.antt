use Rattle.std.proofs.Common.{◌≡◌, ◌≤◌, length, take, filter}
use Rattle.step_rules.specs.Taken.{open_of}
use Rattle.step_rules.specs.machinery.Walks.{rival_at}
use Rattle.step_rules.proofs.open_step.rivals.rivals.Given as goal

-- those so far
abbrev pub invariant-loop-id : goal.invariant-loop-id
invariant-loop-id l = (l.count ≡ length (filter (rival_at l.tree.nodes (open_of l.step)) (take l.id-index l.numbers))) × (l.count ≤ l.id-index)
