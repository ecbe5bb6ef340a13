use Rattle.std.proofs.Common.{◌≡◌, ◌<◌, ap, arith, rules, ◌∙◌, FitsSigned}
use Rattle.std.specs.Prelude.{ℤ, pos, nat_abs, ◌==◌}
use Rattle.std.specs.Int.{w64, int_rem_euclid, cast_unsigned}
use Rattle.std.proofs.lemmas.Int.{ints, to_z-of_z}
use Rattle.std.proofs.lemmas.Bool.Decides.{same_from_decides, Decides-eqb}
use Rattle.lin_atoms.proofs.DivisionLemmas.{positive, multiple_where}
use Rattle.lin_atoms.proofs.accumulator.Accumulator.is_multiple.Goals as goal

-- the bits of a number are 0 where its size is
same_zero : (r : ℤ) → FitsSigned w64 r → (cast_unsigned w64 r == 0) ≡ (nat_abs r == 0)
same_zero r fits = same_from_decides {P = r ≡ pos 0} (cast_unsigned w64 r == 0) (nat_abs r == 0)
    (λ t. let e = (Decides-eqb (cast_unsigned w64 r) 0).0 t in omega (arith, ints), λ e. (Decides-eqb (cast_unsigned w64 r) 0).1 (ap (cast_unsigned w64) e))
    (λ t. let e = (Decides-eqb (nat_abs r) 0).0 t in omega (arith, ints), λ e. (Decides-eqb (nat_abs r) 0).1 (ap nat_abs e))

pub returns : goal.returns
returns c =
    let d_fits : FitsSigned w64 c.args.divisor = c.ranges.divisor in
    let r_fits : FitsSigned w64 c.remainder.result = search rules in
    let d : c.args.divisor ≡ pos (nat_abs c.args.divisor) = positive c.args.divisor c.requires in
    let some : 0 < nat_abs c.args.divisor = omega (arith, ints, c.requires) in
    let told = simp to_z-of_z at c.remainder.ensures in
    same_zero c.remainder.result r_fits ∙ ap (λ z. nat_abs z == 0) (told ∙ ap (λ z. int_rem_euclid c.args.self.now.value z) d) ∙ multiple_where c.args.self.now.value (nat_abs c.args.divisor) some
