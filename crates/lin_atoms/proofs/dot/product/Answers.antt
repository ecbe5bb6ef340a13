use Rattle.std.proofs.Common.{◌≡◌, ◌<◌, ◌^◌, ap, ◌∙◌, arith, rules, FitsSigned}
use Rattle.std.specs.Prelude.{◌*ℤ◌, nat_abs}
use Rattle.std.specs.Int.{w64, w128}
use Rattle.std.proofs.lemmas.Int.{ints, to_z-of_z}
use Rattle.lin_atoms.proofs.WordLemmas.{long-product}
use Rattle.lin_atoms.proofs.dot.product.Goals as goal

pub returns : goal.returns
returns c =
    let a = c.args.a in
    let b = c.args.b in
    let a_fits : FitsSigned w64 a = c.ranges.a in
    let b_fits : FitsSigned w64 b = c.ranges.b in
    let p_fits : FitsSigned w128 c.from.result = record { sfits = c.from.type_inv } in
    let q_fits : FitsSigned w128 c.from-2.result = record { sfits = c.from-2.type_inv } in
    let is : c.from.result ≡ a = simp to_z-of_z at c.from.ensures in
    let same : c.from-2.result ≡ b = simp to_z-of_z at c.from-2.ensures in
    let below : nat_abs b < 2 ^ 64 = omega (arith, ints, b_fits.sfits) in
    let small : nat_abs c.from-2.result < 2 ^ 64 = rw same below in
    let whole : FitsSigned w128 (c.from.result *ℤ c.from-2.result) = long-product a c.from-2.result c.from.result a_fits small is in
    simp to_z-of_z (ap (λ z. z *ℤ c.from-2.result) is ∙ ap (λ z. a *ℤ z) same)
