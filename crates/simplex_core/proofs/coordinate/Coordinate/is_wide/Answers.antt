use Rattle.std.proofs.Common.{◌≡◌, ◌<◌, ◌^◌, ap, sym, subst, ◌∙◌, arith, rules, FitsSigned}
use Rattle.std.specs.Prelude.{ℤ, pos, ◌<ℤ◌, nat_abs}
use Rattle.std.specs.Int.{w128}
use Rattle.std.proofs.lemmas.Bool.{lt-leb}
use Rattle.std.proofs.lemmas.Int.{to_z-of_z}
use Rattle.lin_atoms.specs.Ratio.{Fraction}
use Rattle.simplex_core.proofs.FractionLemmas.{fitting}
use Rattle.simplex_core.proofs.coordinate.Coordinate.is_wide.Goals as goal

pub returns-else-unsigned_abs : goal.returns-else-unsigned_abs
returns-else-unsigned_abs c =
    let q = c.args.self.now in
    let n_fits : FitsSigned w128 c.in-Some.num = search rules in
    let size = simp to_z-of_z at c.unsigned_abs.ensures.value in
    let num : c.self.inside.sum.value ≡ q.num = ap (λ (q : Fraction). q.num) c.self.view_is in
    let den : c.self.inside.den ≡ q.den = ap (λ (q : Fraction). q.den) c.self.view_is in
    let some : pos 0 <ℤ q.den = subst (λ (z : ℤ). pos 0 <ℤ z) den c.self.invariant in
    let is : c.unsigned_abs.result ≡ nat_abs q.num = size ∙ ap nat_abs (c.in-Some.ensures.1 ∙ num) in
    let below : c.unsigned_abs.result < 2 ^ 127 = omega (arith, c.if-unsigned_abs.false) in
    lt-leb (2 ^ 127) c.unsigned_abs.result below ∙ sym (fitting q some (subst (λ n. n < 2 ^ 127) is below))
