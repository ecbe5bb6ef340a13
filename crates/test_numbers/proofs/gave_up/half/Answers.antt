use Rattle.farkas_proof.proofs.HalfLemmas.{half-given-up}
use Rattle.test_numbers.proofs.gave_up.half.Goals as goal

pub keep-requires : goal.keep-requires
keep-requires _ c = rw (c.conjunction-form.ensures, c.equal-double.ensures, c.equal-one.ensures) (∣ half-given-up ∣₁)
