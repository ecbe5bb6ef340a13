use Rattle.std.proofs.Common.{◌≡◌, ◌≤◌, ◌^◌, arith, rules, FitsSigned}
use Rattle.std.specs.Prelude.{ℤ, ◌*ℤ◌, nat_abs}
use Rattle.std.specs.Int.{w64, w128}
use Rattle.std.proofs.Math.Nat.{mul-le-mul}
use Rattle.std.proofs.lemmas.Int.{ints, to_z-of_z, unsigned_abs-mul}
use Rattle.run_clauses.proofs.tightening.times.Goals as goal

small-product : (a b : ℤ) → FitsSigned w64 a → FitsSigned w64 b → nat_abs (a *ℤ b) ≤ 2 ^ 126
small-product a b f g =
    let p : nat_abs a ≤ 9223372036854775808 = omega (arith, ints, f.sfits) in
    let q : nat_abs b ≤ 9223372036854775808 = omega (arith, ints, g.sfits) in
    omega (arith, unsigned_abs-mul a b, mul-le-mul p q)

pub overflow_mul-result : goal.overflow_mul-result
overflow_mul-result c =
    let a_fits : FitsSigned w64 c.args.a = c.ranges.a in
    let b_fits : FitsSigned w64 c.args.b = c.ranges.b in
    let p_fits : FitsSigned w128 c.from.result = search rules in
    let q_fits : FitsSigned w128 c.from-2.result = search rules in
    let is : c.from.result ≡ c.args.a = simp to_z-of_z at c.from.ensures in
    let same : c.from-2.result ≡ c.args.b = simp to_z-of_z at c.from-2.ensures in
    let small : nat_abs (c.from.result *ℤ c.from-2.result) ≤ 2 ^ 126 = rw (is, same) (small-product c.args.a c.args.b a_fits b_fits) in
    simp to_z-of_z (omega (arith, ints, small))
