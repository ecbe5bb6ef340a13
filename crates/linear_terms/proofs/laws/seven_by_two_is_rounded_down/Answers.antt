use Rattle.std.proofs.Common.{◌≡◌, refl}
use Rattle.std.specs.Prelude.{pos, negsuc}
use Rattle.lin_atoms.specs.Linear.{variable_at, of_constant}
use Rattle.linear_terms.specs.Linear.{variable_form}
use Rattle.linear_terms.proofs.LinearLemmas.{variable_value}
use Rattle.linear_terms.proofs.PlaceLemmas.{quotient_place_is, remainder_place_is}
use Rattle.linear_terms.proofs.laws.seven_by_two_is_rounded_down.Goals as goal

two_is_some : pos 2 ≡ pos 0 → ⊥
two_is_some e = absurd (cc)

pub returns : goal.returns
returns c = record {
  quotient = λ point. quotient_place_is point (variable_form 0) (of_constant (negsuc 6)) (pos 2) (variable_at point 0) (negsuc 6) two_is_some (variable_value point 0) refl;
  remainder = λ point. remainder_place_is point (variable_form 0) (of_constant (negsuc 6)) (pos 2) (variable_at point 0) (negsuc 6) two_is_some (variable_value point 0) refl;
}
