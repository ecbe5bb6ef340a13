use Rattle.std.proofs.Common.{FitsSigned, ap, ◌∙◌}
use Rattle.std.specs.Prelude.{◌-ℤ◌, ◌*ℤ◌}
use Rattle.std.specs.Int.{w64, w128}
use Rattle.std.proofs.lemmas.Int.{to_z-of_z}
use Rattle.int_rows.proofs.CombineLemmas.{difference-fits, difference-small}
use Rattle.int_rows.proofs.combine.combination.Goals as goal

pub returns-clause-value : goal.returns-clause-value
returns-clause-value c =
    let first : FitsSigned w128 c.product.result = record { sfits = c.product.type_inv } in
    let second : FitsSigned w128 c.product-2.result = record { sfits = c.product-2.type_inv } in
    let whole : FitsSigned w128 (c.product.result -ℤ c.product-2.result) = difference-fits c.product.result c.product-2.result c.product.ensures.bound c.product-2.ensures.bound in
    let p_fits : FitsSigned w64 c.args.p = c.ranges.p in
    let x_fits : FitsSigned w64 c.args.x = c.ranges.x in
    let q_fits : FitsSigned w64 c.args.q = c.ranges.q in
    let y_fits : FitsSigned w64 c.args.y = c.ranges.y in
    let one = simp to_z-of_z at c.product.ensures.value in
    let two = simp to_z-of_z at c.product-2.ensures.value in
    simp to_z-of_z (ap (λ z. z -ℤ c.product-2.result) one ∙ ap (λ z. c.args.p *ℤ c.args.x -ℤ z) two)

pub returns-clause-bound : goal.returns-clause-bound
returns-clause-bound c =
    let first : FitsSigned w128 c.product.result = record { sfits = c.product.type_inv } in
    let second : FitsSigned w128 c.product-2.result = record { sfits = c.product-2.type_inv } in
    let whole : FitsSigned w128 (c.product.result -ℤ c.product-2.result) = difference-fits c.product.result c.product-2.result c.product.ensures.bound c.product-2.ensures.bound in
    simp to_z-of_z (difference-small c.product.result c.product-2.result c.product.ensures.bound c.product-2.ensures.bound)

pub overflow_sub-result : goal.overflow_sub-result
overflow_sub-result c =
    let first : FitsSigned w128 c.product.result = record { sfits = c.product.type_inv } in
    let second : FitsSigned w128 c.product-2.result = record { sfits = c.product-2.type_inv } in
    simp to_z-of_z (difference-fits c.product.result c.product-2.result c.product.ensures.bound c.product-2.ensures.bound)
