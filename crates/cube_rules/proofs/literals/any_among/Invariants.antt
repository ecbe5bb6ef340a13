use Rattle.std.proofs.Common.{◌≡◌, drop}
use Rattle.std.specs.List.{list_any}
use Rattle.book_rules.specs.Areas.{is_among}
use Rattle.cube_rules.proofs.literals.any_among.Given as goal

-- the rest decides
abbrev pub invariant-loop-lit : goal.invariant-loop-lit
invariant-loop-lit l = list_any (is_among l.lits) (drop l.lit-index l.those) ≡ list_any (is_among l.lits) l.those
