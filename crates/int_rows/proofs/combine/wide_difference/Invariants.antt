use Rattle.std.proofs.Common.{◌≡◌, drop}
use Rattle.std.specs.Prelude.{pos}
use Rattle.int_rows.specs.Rows.{are_short}
use Rattle.int_rows.specs.Pivot.{combined, reduced}
use Rattle.int_rows.proofs.combine.wide_difference.Given as goal

-- the entries to come decide
abbrev pub invariant-loop-i : goal.invariant-loop-i
invariant-loop-i l = are_short (drop l.i (reduced (pos 1) (combined (pos 1) l.q l.row l.other))) ≡ are_short (reduced (pos 1) (combined (pos 1) l.q l.row l.other))
