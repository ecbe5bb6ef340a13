use Rattle.std.proofs.Common.{ℕ, drop, map}
use Rattle.std.specs.Int.{◌∣◌}
use Rattle.int_rows.proofs.ContentLemmas.{Divides, Same}
use Rattle.guess_table.proofs.tightening.content.Given as goal

-- the common divisors of the number and of what is left are those of the coefficients
abbrev pub invariant-loop-coefficient : goal.invariant-loop-coefficient
invariant-loop-coefficient l = (d : ℕ) → Same ((d ∣ l.divisor) × Divides d (drop l.coefficient-index (map (λ t. t.1) l.terms))) (Divides d (map (λ t. t.1) l.terms))
