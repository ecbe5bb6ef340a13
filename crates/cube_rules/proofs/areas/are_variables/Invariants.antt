use Rattle.std.proofs.Common.{◌≡◌, drop}
use Rattle.book_rules.specs.Areas.{are_among}
use Rattle.cube_rules.proofs.areas.are_variables.Given as goal

-- the rest decides
abbrev pub invariant-loop-variable : goal.invariant-loop-variable
invariant-loop-variable l = are_among l.those (drop l.variable-index l.these) ≡ are_among l.those l.these
