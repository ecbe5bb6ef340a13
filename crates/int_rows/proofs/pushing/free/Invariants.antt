use Rattle.std.proofs.Common.{◌≡◌, ◌≤◌, ℕ, map, true}
use Rattle.int_rows.specs.Pushed.{freed_of}
use Rattle.int_rows.specs.Rows.{are_short}
use Rattle.int_rows.proofs.pushing.free.Given as goal

-- the row without the columns so far, each time with room
abbrev pub invariant-loop-i : goal.invariant-loop-i
invariant-loop-i l = record {
  row : l.row ≡ freed_of l.i l.columns (map (λ r. r.items) l.others) l.fn.row;
  room : (k : ℕ) → k ≤ l.i → are_short (freed_of k l.columns (map (λ r. r.items) l.others) l.fn.row) ≡ true;
}
