use Rattle.std.proofs.Common.{◌≡◌, drop}
use Rattle.std.specs.List.{find}
use Rattle.step_rules.specs.machinery.Walks.{child_at}
use Rattle.step_rules.proofs.stall_step.rules.first_child.Given as goal

-- the rest decides
abbrev pub invariant-loop-id : goal.invariant-loop-id
invariant-loop-id l = find (child_at l.tree.nodes l.parent) (drop l.id-index l.numbers) ≡ find (child_at l.tree.nodes l.parent) l.numbers
