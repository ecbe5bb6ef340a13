use Rattle.std.proofs.Common.{◌≡◌, drop}
use Rattle.term_widths.specs.Sides.{is_wide_with}
use Rattle.term_widths.proofs.sides.is_wide_with.Given as goal

-- the others to come decide
abbrev pub invariant-loop-other : goal.invariant-loop-other
invariant-loop-other l = is_wide_with l.first (drop l.other-index l.others) ≡ is_wide_with l.first l.others
