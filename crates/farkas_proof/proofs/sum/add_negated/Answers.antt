use Rattle.std.proofs.Common.{arith, ap, ◌∙◌, ◌≡◌, FitsSigned}
use Rattle.std.specs.Prelude.{pos, neg_ℤ, ◌-ℤ◌, ◌+ℤ◌, ◌*ℤ◌}
use Rattle.std.specs.Int.{w64, w128}
use Rattle.std.proofs.lemmas.Int.{ints, to_z-of_z}
use Rattle.base.proofs.Public.{neg_ℤ-*ℤ}
use Rattle.farkas_proof.proofs.sum.add_negated.Goals as goal

pub returns-clause-value : goal.returns-clause-value
returns-clause-value c =
    let k_fits : FitsSigned w64 c.args.k = c.ranges.k in
    let a_fits : FitsSigned w128 c.args.a = c.ranges.a in
    let n_fits : FitsSigned w64 (pos 0 -ℤ c.args.k) = omega (arith, ints, c.requires.short) in
    let sum = simp to_z-of_z at c.add.ensures.value in
    let turned : pos 0 -ℤ c.args.k ≡ neg_ℤ c.args.k = omega (arith, ints) in
    sum ∙ ap (λ n. c.args.total.now.value +ℤ n *ℤ c.args.a) turned ∙ ap (λ n. c.args.total.now.value +ℤ n) (neg_ℤ-*ℤ c.args.k c.args.a)
