use Rattle.std.proofs.Common.{◌≡◌, ◌-◌, ◌≤◌, drop}
use Rattle.std.specs.List.{list_any}
use Rattle.linear_terms.specs.Formula.{neighbours}
use Rattle.term_widths.specs.Sides.{is_wide_pair}
use Rattle.term_widths.proofs.sides.are_wide_neighbours.Given as goal

-- the sides from the last one on decide
abbrev pub invariant-loop-i : goal.invariant-loop-i
invariant-loop-i l = (1 ≤ l.i) × (list_any is_wide_pair (neighbours (drop (l.i - 1) l.forms)) ≡ list_any is_wide_pair (neighbours l.forms))
