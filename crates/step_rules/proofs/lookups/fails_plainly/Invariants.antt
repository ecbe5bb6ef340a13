use Rattle.std.proofs.Common.{◌≡◌, drop}
use Rattle.std.specs.List.{list_any}
use Rattle.step_rules.specs.machinery.Walks.{fails_plainly_at}
use Rattle.step_rules.proofs.lookups.fails_plainly.Given as goal

-- the rest decides
abbrev pub invariant-loop-lit : goal.invariant-loop-lit
invariant-loop-lit l = list_any (fails_plainly_at l.tuple) (drop l.lit-index l.lits) ≡ list_any (fails_plainly_at l.tuple) l.lits
