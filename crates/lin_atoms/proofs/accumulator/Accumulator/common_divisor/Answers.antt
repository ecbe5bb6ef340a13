use Rattle.std.proofs.Common.{◌≡◌, ◌<◌, ◌≤◌, arith, rules, sym, subst, ℕ, FitsSigned}
use Rattle.std.specs.Prelude.{nat_abs}
use Rattle.std.specs.Int.{w64, IsGcd, cast_signed}
use Rattle.std.proofs.lemmas.Int.{ints, to_z-of_z}
use Rattle.std.proofs.lemmas.Nat.Gcd.{le_of_dvd}
use Rattle.lin_atoms.proofs.RatioLemmas.{divisor-some, gcd_of_rest}
use Rattle.lin_atoms.proofs.accumulator.Accumulator.common_divisor.Goals as goal

pub overflow_cast-result : goal.overflow_cast-result
overflow_cast-result c =
    let n_fits : FitsSigned w64 c.args.n = c.ranges.n in
    let n = simp to_z-of_z at c.unsigned_abs-2.ensures.value in
    let some : 0 < c.from-2.result = omega (arith, ints, c.requires, n, c.from-2.ensures) in
    let le : c.gcd-divisor.result ≤ c.from-2.result = le_of_dvd some c.gcd-divisor.ensures.1 in
    omega (arith, ints, n, c.from-2.ensures, c.requires)

pub returns-clause-common : goal.returns-clause-common
returns-clause-common c =
    let n_fits : FitsSigned w64 c.args.n = c.ranges.n in
    let r_fits : FitsSigned w64 c.remainder-rest.result = search rules in
    let n = simp to_z-of_z at c.unsigned_abs-2.ensures.value in
    let r = simp to_z-of_z at c.unsigned_abs.ensures.value in
    let told = simp to_z-of_z at c.remainder-rest.ensures in
    let some : 0 < c.from-2.result = omega (arith, ints, c.requires, n, c.from-2.ensures) in
    let le : c.gcd-divisor.result ≤ c.from-2.result = le_of_dvd some c.gcd-divisor.ensures.1 in
    let cast : nat_abs (cast_signed w64 c.gcd-divisor.result) ≡ c.gcd-divisor.result = omega (arith, ints, n, c.from-2.ensures, c.requires) in
    let is = rw (c.from.ensures, c.from-2.ensures, r, n, told) at c.gcd-divisor.ensures in
    let P : ℕ → Type 0 = λ g. IsGcd (nat_abs c.args.self.now.value) (nat_abs c.args.n) g in
    subst P (sym cast) (gcd_of_rest c.args.self.now.value c.args.n c.gcd-divisor.result c.requires is)

pub returns-clause-positive : goal.returns-clause-positive
returns-clause-positive c =
    let n_fits : FitsSigned w64 c.args.n = c.ranges.n in
    let n = simp to_z-of_z at c.unsigned_abs-2.ensures.value in
    let some : 0 < c.from-2.result = omega (arith, ints, c.requires, n, c.from-2.ensures) in
    let le : c.gcd-divisor.result ≤ c.from-2.result = le_of_dvd some c.gcd-divisor.ensures.1 in
    let some' = divisor-some c.gcd-divisor.result c.from-2.result c.gcd-divisor.ensures.1 some in
    omega (arith, ints, n, c.from-2.ensures, c.requires)
