use Rattle.std.proofs.Common.{ℕ, drop}
use Rattle.std.specs.Int.{◌∣◌}
use Rattle.int_rows.proofs.ContentLemmas.{Divides, Same}
use Rattle.lia_close.specs.machinery.Closing.{coefficients}
use Rattle.lia_close.proofs.content.content.Given as goal

-- the common divisors of the number and of what is left are those of all coefficients
abbrev pub invariant-loop-term : goal.invariant-loop-term
invariant-loop-term l = (d : ℕ) → Same ((d ∣ l.divisor) × Divides d (drop l.term-index (coefficients l.lin))) (Divides d (coefficients l.lin))
