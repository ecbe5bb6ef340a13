use Rattle.std.proofs.Common.{ℕ, drop, ◌<◌, ◌^◌}
use Rattle.std.specs.Int.{◌∣◌}
use Rattle.int_rows.specs.Pivot.{combined}
use Rattle.int_rows.proofs.ContentLemmas.{Divides, Same}
use Rattle.int_rows.proofs.combine.combined_content.Given as goal

-- the common divisors of the number and of what is left are those of the combination
abbrev pub invariant-loop-i : goal.invariant-loop-i
invariant-loop-i l = record {
  told : (d : ℕ) → Same ((d ∣ l.divisor) × Divides d (drop l.i (combined l.p l.q l.row l.other))) (Divides d (combined l.p l.q l.row l.other));
  bound : l.divisor < 2 ^ 127;
}
