use Rattle.std.proofs.Common.{◌≡◌, drop}
use Rattle.std.specs.List.{find}
use Rattle.step_rules.specs.Taken.{open_of}
use Rattle.step_rules.specs.machinery.Walks.{twin_at}
use Rattle.step_rules.proofs.open_step.rivals.first_twin.Given as goal

-- the rest decides
abbrev pub invariant-loop-id : goal.invariant-loop-id
invariant-loop-id l = find (twin_at l.tree.nodes (open_of l.step) l.tuple) (drop l.id-index l.numbers) ≡ find (twin_at l.tree.nodes (open_of l.step) l.tuple) l.numbers
