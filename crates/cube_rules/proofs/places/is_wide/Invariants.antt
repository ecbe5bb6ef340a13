use Rattle.std.proofs.Common.{◌≡◌, drop}
use Rattle.book_rules.specs.Areas.{is_wide}
use Rattle.cube_rules.proofs.places.is_wide.Given as goal

-- the rest decides
abbrev pub invariant-loop-lit : goal.invariant-loop-lit
invariant-loop-lit l = is_wide (drop l.lit-index l.lits) ≡ is_wide l.lits
