use Rattle.std.proofs.Common.{◌≡◌, ap, rules, FitsSigned}
use Rattle.std.specs.Prelude.{◌*ℤ◌}
use Rattle.std.specs.Int.{w64, w128}
use Rattle.std.proofs.lemmas.Int.{to_z-of_z}
use Rattle.lin_atoms.proofs.WordLemmas.{long-product}
use Rattle.lin_atoms.proofs.accumulator.product.Goals as goal

pub returns : goal.returns
returns c =
    let a = c.args.a in
    let b = c.args.b in
    let a_fits : FitsSigned w64 a = c.ranges.a in
    let b_fits : FitsSigned w128 b = c.ranges.b in
    let wide_fits : FitsSigned w128 c.from.result = record { sfits = c.from.type_inv } in
    let is : c.from.result ≡ a = simp to_z-of_z at c.from.ensures in
    let whole : FitsSigned w128 (c.from.result *ℤ b) = long-product a b c.from.result a_fits c.requires is in
    simp to_z-of_z (ap (λ z. z *ℤ b) is)

pub overflow_mul-result : goal.overflow_mul-result
overflow_mul-result c =
    let a_fits : FitsSigned w64 c.args.a = c.ranges.a in
    let b_fits : FitsSigned w128 c.args.b = c.ranges.b in
    let wide_fits : FitsSigned w128 c.from.result = record { sfits = c.from.type_inv } in
    let is : c.from.result ≡ c.args.a = simp to_z-of_z at c.from.ensures in
    simp to_z-of_z (long-product c.args.a c.args.b c.from.result a_fits c.requires is)
