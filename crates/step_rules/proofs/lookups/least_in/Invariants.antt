use Rattle.std.proofs.Common.{◌≡◌, drop, None}
use Rattle.std.specs.List.{fold}
use Rattle.step_rules.specs.machinery.Fronts.{with_least}
use Rattle.step_rules.specs.machinery.Walks.{lies_in_at}
use Rattle.step_rules.proofs.lookups.least_in.Given as goal

-- the rest decides
abbrev pub invariant-loop-id : goal.invariant-loop-id
invariant-loop-id l = fold (with_least (lies_in_at l.facts l.pred l.cube)) l.best (drop l.id-index l.numbers) ≡ fold (with_least (lies_in_at l.facts l.pred l.cube)) None l.numbers
