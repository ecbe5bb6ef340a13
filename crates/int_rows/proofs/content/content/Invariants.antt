use Rattle.std.proofs.Common.{ℕ, drop}
use Rattle.std.specs.Int.{◌∣◌}
use Rattle.int_rows.proofs.ContentLemmas.{Divides, Same}
use Rattle.int_rows.proofs.content.content.Given as goal

-- the common divisors of the number and of what is left are those of the row
abbrev pub invariant-loop-entry : goal.invariant-loop-entry
invariant-loop-entry l = (d : ℕ) → Same ((d ∣ l.divisor) × Divides d (drop l.entry-index l.row)) (Divides d l.row)
