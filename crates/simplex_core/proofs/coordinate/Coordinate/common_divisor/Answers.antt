use Rattle.std.proofs.Common.{◌≡◌, ◌<◌, ◌≤◌, arith, rules, sym, ap, subst, ℕ, FitsSigned}
use Rattle.std.specs.Prelude.{ℤ, nat_abs}
use Rattle.std.specs.Int.{w64, IsGcd, cast_signed}
use Rattle.std.proofs.lemmas.Int.{ints, to_z-of_z}
use Rattle.std.proofs.lemmas.Nat.Gcd.{le_of_dvd}
use Rattle.lin_atoms.specs.Ratio.{Fraction}
use Rattle.lin_atoms.proofs.Public.{divisor-some, gcd_of_rest}
use Rattle.simplex_core.proofs.coordinate.Coordinate.common_divisor.Goals as goal

pub overflow_cast-result : goal.overflow_cast-result
overflow_cast-result c =
    let n_fits : FitsSigned w64 c.self.inside.den = search rules in
    let n = simp to_z-of_z at c.unsigned_abs-2.ensures.value in
    let some : 0 < c.from-2.result = omega (arith, ints, c.self.invariant, n, c.from-2.ensures) in
    let le : c.gcd-divisor.result ≤ c.from-2.result = le_of_dvd some c.gcd-divisor.ensures.1 in
    omega (arith, ints, n, c.from-2.ensures, c.self.invariant)

pub returns-clause-common : goal.returns-clause-common
returns-clause-common c =
    let n_fits : FitsSigned w64 c.self.inside.den = search rules in
    let r_fits : FitsSigned w64 c.remainder-rest.result = search rules in
    let n = simp to_z-of_z at c.unsigned_abs-2.ensures.value in
    let r = simp to_z-of_z at c.unsigned_abs.ensures.value in
    let told = simp to_z-of_z at c.remainder-rest.ensures in
    let some : 0 < c.from-2.result = omega (arith, ints, c.self.invariant, n, c.from-2.ensures) in
    let le : c.gcd-divisor.result ≤ c.from-2.result = le_of_dvd some c.gcd-divisor.ensures.1 in
    let cast : nat_abs (cast_signed w64 c.gcd-divisor.result) ≡ c.gcd-divisor.result = omega (arith, ints, n, c.from-2.ensures, c.self.invariant) in
    let is = rw (c.from.ensures, c.from-2.ensures, r, n, told) at c.gcd-divisor.ensures in
    let num : c.self.inside.sum.value ≡ c.args.self.now.num = ap (λ (q : Fraction). q.num) c.self.view_is in
    let den : c.self.inside.den ≡ c.args.self.now.den = ap (λ (q : Fraction). q.den) c.self.view_is in
    let P : ℕ → Type 0 = λ g. IsGcd (nat_abs c.args.self.now.num) (nat_abs c.args.self.now.den) g in
    let whole = gcd_of_rest c.self.inside.sum.value c.self.inside.den c.gcd-divisor.result c.self.invariant is in
    let Q : ℤ → Type 0 = λ z. IsGcd (nat_abs z) (nat_abs c.self.inside.den) c.gcd-divisor.result in
    let R : ℤ → Type 0 = λ z. IsGcd (nat_abs c.args.self.now.num) (nat_abs z) c.gcd-divisor.result in
    subst P (sym cast) (subst R den (subst Q num whole))

pub returns-clause-positive : goal.returns-clause-positive
returns-clause-positive c =
    let n_fits : FitsSigned w64 c.self.inside.den = search rules in
    let n = simp to_z-of_z at c.unsigned_abs-2.ensures.value in
    let some : 0 < c.from-2.result = omega (arith, ints, c.self.invariant, n, c.from-2.ensures) in
    let le : c.gcd-divisor.result ≤ c.from-2.result = le_of_dvd some c.gcd-divisor.ensures.1 in
    let some' = divisor-some c.gcd-divisor.result c.from-2.result c.gcd-divisor.ensures.1 some in
    omega (arith, ints, n, c.from-2.ensures, c.self.invariant)
