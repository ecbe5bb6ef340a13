use Rattle.std.proofs.Common.{◌≡◌, ◌++◌, drop, map, take}
use Rattle.int_rows.specs.Pivot.{eliminated}
use Rattle.int_rows.proofs.pivoting.eliminate_each.Given as goal

-- the rows so far are freed, those to come are as they were
abbrev pub invariant-loop-i : goal.invariant-loop-i
invariant-loop-i l = map (λ r. r.items) l.rows ≡ map (eliminated l.column l.other) (take l.i (map (λ r. r.items) l.fn.rows)) ++ drop l.i (map (λ r. r.items) l.fn.rows)
