use Rattle.std.proofs.Common.{◌≡◌, ◌<◌, ◌^◌, ap, ◌∙◌, arith, rules, FitsSigned}
use Rattle.std.specs.Prelude.{◌-ℤ◌, nat_abs}
use Rattle.std.specs.Int.{w64, w128}
use Rattle.std.proofs.lemmas.Int.{ints, to_z-of_z}
use Rattle.int_rows.proofs.making.difference.Goals as goal

pub overflow_sub-result : goal.overflow_sub-result
overflow_sub-result c =
    let b_fits : FitsSigned w64 c.args.bound = c.ranges.bound in
    let small : nat_abs c.constant.result < 2 ^ 64 = rw c.constant.ensures.is c.constant.ensures.long in
    let a_fits : FitsSigned w128 c.constant.result = omega (arith, ints, small) in
    let f_fits : FitsSigned w128 c.from.result = search rules in
    let same : c.from.result ≡ c.args.bound = simp to_z-of_z at c.from.ensures in
    simp to_z-of_z (omega (arith, ints, small, b_fits.sfits, same))

pub returns : goal.returns
returns c =
    let b_fits : FitsSigned w64 c.args.bound = c.ranges.bound in
    let small : nat_abs c.constant.result < 2 ^ 64 = rw c.constant.ensures.is c.constant.ensures.long in
    let a_fits : FitsSigned w128 c.constant.result = omega (arith, ints, small) in
    let f_fits : FitsSigned w128 c.from.result = search rules in
    let same : c.from.result ≡ c.args.bound = simp to_z-of_z at c.from.ensures in
    let whole : FitsSigned w128 (c.from.result -ℤ c.constant.result) = omega (arith, ints, small, b_fits.sfits, same) in
    simp to_z-of_z (ap (λ z. z -ℤ c.constant.result) same ∙ ap (λ z. c.args.bound -ℤ z) c.constant.ensures.is)
