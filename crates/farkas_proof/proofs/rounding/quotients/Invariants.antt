use Rattle.std.proofs.Common.{◌≡◌, take, drop, map}
use Rattle.std.specs.Int.{int_div_euclid}
use Rattle.lin_atoms.specs.Linear.{are_short}
use Rattle.farkas_proof.specs.machinery.Sum.{seen}
use Rattle.farkas_proof.proofs.rounding.quotients.Given as goal

-- the terms so far are divided, and those to come decide
abbrev pub invariant-loop-term : goal.invariant-loop-term
invariant-loop-term l = record {
  made : l.made.items ≡ map (λ t. (t.0, int_div_euclid t.1 l.divisor)) (seen (take l.term-index l.terms));
  told : are_short (map (λ t. (t.0, int_div_euclid t.1 l.divisor)) (seen (drop l.term-index l.terms))) ≡ are_short (map (λ t. (t.0, int_div_euclid t.1 l.divisor)) (seen l.terms));
}
