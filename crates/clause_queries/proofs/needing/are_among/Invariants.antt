use Rattle.std.proofs.Common.{◌≡◌, drop}
use Rattle.std.specs.List.{list_all}
use Rattle.book_rules.specs.Areas.{is_among}
use Rattle.clause_queries.proofs.needing.are_among.Given as goal

-- the rest decides
abbrev pub invariant-loop-lit : goal.invariant-loop-lit
invariant-loop-lit l = list_all (is_among l.whole) (drop l.lit-index l.part) ≡ list_all (is_among l.whole) l.part
