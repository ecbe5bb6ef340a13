use Rattle.std.proofs.Common.{◌≡◌, drop}
use Rattle.std.specs.List.{find}
use Rattle.step_rules.specs.machinery.Walks.{lies_in_at}
use Rattle.step_rules.proofs.lookups.first_in.Given as goal

-- the rest decides
abbrev pub invariant-loop-id : goal.invariant-loop-id
invariant-loop-id l = find (lies_in_at l.facts l.pred l.cube) (drop l.id-index l.numbers) ≡ find (lies_in_at l.facts l.pred l.cube) l.numbers
