use Rattle.std.proofs.Common.{◌≡◌, ap, ◌∙◌, rules, FitsSigned}
use Rattle.std.specs.Prelude.{◌*ℤ◌}
use Rattle.std.specs.Int.{w64, w128}
use Rattle.std.proofs.lemmas.Int.{to_z-of_z}
use Rattle.farkas_proof.proofs.NarrowLemmas.{product-fits}
use Rattle.farkas_proof.proofs.sum.one_product.Goals as goal

pub returns-clause-value : goal.returns-clause-value
returns-clause-value c =
    let k_fits : FitsSigned w64 c.args.k = c.ranges.k in
    let a_fits : FitsSigned w64 c.args.a = c.ranges.a in
    let p_fits : FitsSigned w128 c.from.result = search rules in
    let q_fits : FitsSigned w128 c.from-2.result = search rules in
    let is : c.from.result ≡ c.args.k = simp to_z-of_z at c.from.ensures in
    let same : c.from-2.result ≡ c.args.a = simp to_z-of_z at c.from-2.ensures in
    let whole : FitsSigned w128 (c.from.result *ℤ c.from-2.result) = product-fits c.args.k c.args.a c.from.result c.from-2.result k_fits a_fits is same in
    let made = simp to_z-of_z at c.new.ensures.value in
    made ∙ ap (λ z. z *ℤ c.from-2.result) is ∙ ap (λ z. c.args.k *ℤ z) same
