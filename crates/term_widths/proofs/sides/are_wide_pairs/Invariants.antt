use Rattle.std.proofs.Common.{◌≡◌, drop}
use Rattle.std.specs.List.{list_any}
use Rattle.linear_terms.specs.Formula.{pairs}
use Rattle.term_widths.specs.Sides.{is_wide_pair}
use Rattle.term_widths.proofs.sides.are_wide_pairs.Given as goal

-- the sides to come decide
abbrev pub invariant-loop-i : goal.invariant-loop-i
invariant-loop-i l = list_any is_wide_pair (pairs (drop l.i l.forms)) ≡ list_any is_wide_pair (pairs l.forms)
