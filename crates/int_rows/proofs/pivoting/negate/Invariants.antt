use Rattle.std.proofs.Common.{◌≡◌, ◌++◌, drop, map, take}
use Rattle.std.specs.Prelude.{neg_ℤ}
use Rattle.int_rows.proofs.pivoting.negate.Given as goal

-- the entries so far have the other sign, those to come are the row's
abbrev pub invariant-loop-i : goal.invariant-loop-i
invariant-loop-i l = l.row ≡ map neg_ℤ (take l.i l.fn.row) ++ drop l.i l.fn.row
