use Rattle.std.proofs.Common.{◌≡◌, ap, sym, ◌∙◌, rules, to_z, FitsSigned}
use Rattle.std.specs.Prelude.{◌*ℤ◌}
use Rattle.std.specs.Int.{w64, w128}
use Rattle.std.proofs.lemmas.Int.{to_z-of_z}
use Rattle.farkas_proof.proofs.NarrowLemmas.{product-fits}
use Rattle.farkas_proof.proofs.division.exact.Goals as goal

pub returns-then-from : goal.returns-then-from
returns-then-from c =
    let q = c.args.quotient in
    let d = c.args.divisor in
    let q_fits : FitsSigned w64 q = c.ranges.quotient in
    let d_fits : FitsSigned w64 d = c.ranges.divisor in
    let n_fits : FitsSigned w64 c.args.n = c.ranges.n in
    let r_fits : FitsSigned w128 c.from.result = search rules in
    let e_fits : FitsSigned w128 c.from-2.result = search rules in
    let m_fits : FitsSigned w128 c.from-3.result = search rules in
    let is : c.from.result ≡ q = simp to_z-of_z at c.from.ensures in
    let same : c.from-2.result ≡ d = simp to_z-of_z at c.from-2.ensures in
    let whole : FitsSigned w128 (c.from.result *ℤ c.from-2.result) = product-fits q d c.from.result c.from-2.result q_fits d_fits is same in
    let equal : c.from.result *ℤ c.from-2.result ≡ c.from-3.result = simp to_z-of_z at (ap (to_z w128) c.if-from.true) in
    simp to_z-of_z (ap (λ z. z *ℤ d) (sym is) ∙ ap (λ z. c.from.result *ℤ z) (sym same) ∙ equal ∙ simp to_z-of_z at c.from-3.ensures)
