use Rattle.std.proofs.Common.{◌≡◌, ◌≤◌, ◌^◌, ap, sym, subst, ◌∙◌, rules, FitsSigned}
use Rattle.std.specs.Prelude.{ℤ, nat_abs, nat_le}
use Rattle.std.specs.Int.{w64, w128, int_div_euclid}
use Rattle.std.proofs.lemmas.Bool.{le-leb}
use Rattle.std.proofs.lemmas.Int.{to_z-of_z}
use Rattle.lin_atoms.specs.Ratio.{Fraction}
use Rattle.lin_atoms.proofs.Public.{wide_where}
use Rattle.simplex_core.proofs.FractionLemmas.{wide_quotient}
use Rattle.simplex_core.proofs.coordinate.Coordinate.is_wide_reduced.Goals as goal

pub returns-in-None : goal.returns-in-None
returns-in-None c =
    let q = c.args.self.now in
    let d = c.common_divisor.result in
    let d_fits : FitsSigned w64 d = search rules in
    let divided = simp to_z-of_z at c.quotient.ensures.value in
    let num : c.self.inside.sum.value ≡ q.num = ap (λ (q : Fraction). q.num) c.self.view_is in
    let is : c.quotient.result.value ≡ int_div_euclid q.num d = divided ∙ ap (λ z. int_div_euclid z d) num in
    let large : 2 ^ 127 ≤ nat_abs (int_div_euclid q.num d) = wide_where (int_div_euclid q.num d) (λ fits. c.in-None.ensures (subst (λ (z : ℤ). FitsSigned w128 z) (sym is) fits)) in
    sym (wide_quotient q d c.common_divisor.ensures.positive c.common_divisor.ensures.common ∙ le-leb (2 ^ 127) (nat_abs (int_div_euclid q.num d)) large)

pub returns-in-Some : goal.returns-in-Some
returns-in-Some c =
    let q = c.args.self.now in
    let d = c.common_divisor.result in
    let d_fits : FitsSigned w64 d = search rules in
    let n_fits : FitsSigned w128 c.in-Some.num = search rules in
    let divided = simp to_z-of_z at c.quotient.ensures.value in
    let size = simp to_z-of_z at c.unsigned_abs.ensures.value in
    let num : c.self.inside.sum.value ≡ q.num = ap (λ (q : Fraction). q.num) c.self.view_is in
    let is : c.in-Some.num ≡ int_div_euclid q.num d = c.in-Some.ensures.1 ∙ divided ∙ ap (λ z. int_div_euclid z d) num in
    ap (nat_le (2 ^ 127)) (size ∙ ap nat_abs is) ∙ sym (wide_quotient q d c.common_divisor.ensures.positive c.common_divisor.ensures.common)
