use Rattle.std.proofs.Common.{◌≡◌, ◌++◌, drop, take}
use Rattle.std.specs.Prelude.{pos}
use Rattle.int_rows.specs.Pivot.{combined, reduced}
use Rattle.int_rows.proofs.combine.put_differences.Given as goal

-- the entries so far are the difference's, those to come are the row's
abbrev pub invariant-loop-i : goal.invariant-loop-i
invariant-loop-i l = l.row ≡ take l.i (reduced (pos 1) (combined (pos 1) l.q l.fn.row l.other)) ++ drop l.i l.fn.row
