use Rattle.std.proofs.Common.{◌≡◌, ap, ◌∙◌, rules, FitsSigned}
use Rattle.std.specs.Prelude.{◌*ℤ◌}
use Rattle.std.specs.Int.{w64, w128}
use Rattle.std.proofs.lemmas.Int.{to_z-of_z}
use Rattle.farkas_proof.proofs.NarrowLemmas.{product-fits}
use Rattle.farkas_proof.proofs.narrow.product.Goals as goal

pub returns : goal.returns
returns c =
    let k = c.args.k in
    let a = c.args.a in
    let k_fits : FitsSigned w64 k = c.ranges.k in
    let a_fits : FitsSigned w64 a = c.ranges.a in
    let p_fits : FitsSigned w128 c.from.result = search rules in
    let q_fits : FitsSigned w128 c.from-2.result = search rules in
    let is : c.from.result ≡ k = simp to_z-of_z at c.from.ensures in
    let same : c.from-2.result ≡ a = simp to_z-of_z at c.from-2.ensures in
    let whole : FitsSigned w128 (c.from.result *ℤ c.from-2.result) = product-fits k a c.from.result c.from-2.result k_fits a_fits is same in
    simp to_z-of_z (ap (λ z. z *ℤ c.from-2.result) is ∙ ap (λ z. k *ℤ z) same)
