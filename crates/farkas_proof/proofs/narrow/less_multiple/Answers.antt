use Rattle.std.proofs.Common.{rules, ◌≡◌, ap, ◌∙◌, subst, FitsSigned}
use Rattle.std.specs.Prelude.{ℤ, ◌-ℤ◌, ◌*ℤ◌, IfSome}
use Rattle.std.specs.Int.{w64, w128}
use Rattle.std.proofs.lemmas.Int.{to_z-of_z}
use Rattle.farkas_proof.proofs.narrow.less_multiple.Goals as goal

pub returns-in-Some : goal.returns-in-Some
returns-in-Some c =
    let n_fits : FitsSigned w64 c.args.negated = c.ranges.negated in
    let k_fits : FitsSigned w64 c.args.k = c.ranges.k in
    let c_fits : FitsSigned w128 c.args.constant = c.ranges.constant in
    let a_fits : FitsSigned w64 c.in-Some.a = search rules in
    let r_fits : FitsSigned w128 c.less_product.result = search rules in
    let same = simp to_z-of_z at c.in-Some.ensures in
    let less = simp to_z-of_z at c.less_product.ensures in
    let found = simp to_z-of_z at c.narrow-in-Some.ensures in
    subst (λ (z : ℤ). IfSome c.narrow-in-Some.result (λ m. m ≡ z)) (less ∙ ap (λ z. c.args.negated -ℤ c.args.k *ℤ z) same) found
