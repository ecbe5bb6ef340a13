use Rattle.std.proofs.Common.{◌≡◌, ◌<◌, ◌^◌, arith, ap, ◌∙◌, subst, FitsSigned, rules, nat_abs}
use Rattle.std.specs.Prelude.{◌-ℤ◌, ◌*ℤ◌}
use Rattle.std.specs.Int.{w64, w128, IsGcd}
use Rattle.std.proofs.lemmas.Int.{to_z-of_z}
use Rattle.int_rows.proofs.ContentLemmas.{gcd-below}
use Rattle.int_rows.proofs.combine.with_entry.Goals as goal

pub returns-clause-common : goal.returns-clause-common
returns-clause-common c =
    let p_fits : FitsSigned w64 c.args.p = c.ranges.p in
    let x_fits : FitsSigned w64 c.args.x = c.ranges.x in
    let q_fits : FitsSigned w64 c.args.q = c.ranges.q in
    let y_fits : FitsSigned w64 c.args.y = c.ranges.y in
    let e_fits : FitsSigned w128 c.combination.result = search rules in
    let value = simp to_z-of_z at c.combination.ensures.value in
    let size = simp to_z-of_z at c.unsigned_abs.ensures.value in
    let number : c.unsigned_abs.result ≡ nat_abs (c.args.p *ℤ c.args.x -ℤ c.args.q *ℤ c.args.y) = size ∙ ap nat_abs value in
    subst (λ n. IsGcd c.args.divisor n c.common.result) number c.common.ensures

pub returns-clause-bound : goal.returns-clause-bound
returns-clause-bound c =
    let e_fits : FitsSigned w128 c.combination.result = search rules in
    let size = simp to_z-of_z at c.unsigned_abs.ensures.value in
    let small : c.unsigned_abs.result < 2 ^ 127 = omega (arith, size, c.combination.ensures.bound) in
    gcd-below c.args.divisor c.unsigned_abs.result c.common.result (2 ^ 127) c.common.ensures c.requires.divisor small
