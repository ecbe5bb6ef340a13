use Rattle.std.proofs.Common.{◌≡◌, ap, ◌∙◌, rules, FitsSigned}
use Rattle.std.specs.Prelude.{◌-ℤ◌, ◌*ℤ◌}
use Rattle.std.specs.Int.{w64, w128}
use Rattle.std.proofs.lemmas.Int.{to_z-of_z}
use Rattle.farkas_proof.proofs.NarrowLemmas.{rest-fits}
use Rattle.farkas_proof.proofs.narrow.less_product.Goals as goal

pub overflow_sub-result : goal.overflow_sub-result
overflow_sub-result c =
    let k_fits : FitsSigned w64 c.args.k = c.ranges.k in
    let a_fits : FitsSigned w64 c.args.a = c.ranges.a in
    let n_fits : FitsSigned w64 c.args.n = c.ranges.n in
    let p_fits : FitsSigned w128 c.product.result = search rules in
    let m_fits : FitsSigned w128 c.from.result = search rules in
    let is : c.product.result ≡ c.args.k *ℤ c.args.a = simp to_z-of_z at c.product.ensures in
    let same : c.from.result ≡ c.args.n = simp to_z-of_z at c.from.ensures in
    simp to_z-of_z (rest-fits c.args.k c.args.a c.args.n c.product.result c.from.result k_fits a_fits n_fits is same)

pub returns : goal.returns
returns c =
    let k_fits : FitsSigned w64 c.args.k = c.ranges.k in
    let a_fits : FitsSigned w64 c.args.a = c.ranges.a in
    let n_fits : FitsSigned w64 c.args.n = c.ranges.n in
    let p_fits : FitsSigned w128 c.product.result = search rules in
    let m_fits : FitsSigned w128 c.from.result = search rules in
    let is : c.product.result ≡ c.args.k *ℤ c.args.a = simp to_z-of_z at c.product.ensures in
    let same : c.from.result ≡ c.args.n = simp to_z-of_z at c.from.ensures in
    let whole : FitsSigned w128 (c.from.result -ℤ c.product.result) = rest-fits c.args.k c.args.a c.args.n c.product.result c.from.result k_fits a_fits n_fits is same in
    simp to_z-of_z (ap (λ z. z -ℤ c.product.result) same ∙ ap (λ z. c.args.n -ℤ z) is)
