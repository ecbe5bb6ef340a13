use Rattle.std.proofs.Common.{◌≡◌, drop}
use Rattle.std.specs.List.{find}
use Rattle.step_rules.specs.Taken.{open_of}
use Rattle.step_rules.specs.machinery.Walks.{rival_at}
use Rattle.step_rules.proofs.open_step.rivals.first_rival.Given as goal

-- the rest decides
abbrev pub invariant-loop-id : goal.invariant-loop-id
invariant-loop-id l = find (rival_at l.tree.nodes (open_of l.step)) (drop l.id-index l.numbers) ≡ find (rival_at l.tree.nodes (open_of l.step)) l.numbers
