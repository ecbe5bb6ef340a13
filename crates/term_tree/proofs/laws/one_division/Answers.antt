use Rattle.std.proofs.Common.{subst, ap}
use Rattle.std.specs.Prelude.{ℤ}
use Rattle.std.specs.Int.{int_div_euclid, int_rem_euclid}
use Rattle.term_tree.specs.declared.scalar.Value.TheVariants.{Int}
use Rattle.term_tree.specs.Division.{IsDivision}
use Rattle.term_tree.specs.Operators.{integer}
use Rattle.term_tree.proofs.DivisionLemmas.{divided, one_division}
use Rattle.term_tree.proofs.laws.one_division.Goals as goal

pub returns : goal.returns
returns c = λ m n q r some.
    let d = divided m n some in (
      λ e. let same = one_division m n (int_div_euclid m n) (int_rem_euclid m n) q r d e in (ap Int same.0, ap Int same.1),
      λ h. subst (λ (z : ℤ). IsDivision m n q z) (ap integer h.1) (subst (λ (z : ℤ). IsDivision m n z (int_rem_euclid m n)) (ap integer h.0) d),
    )
