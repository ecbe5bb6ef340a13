use Rattle.std.proofs.Common.{◌≡◌, subst, arith, FitsSigned}
use Rattle.std.specs.Prelude.{ℤ, pos, neg_ℤ, ◌+ℤ◌}
use Rattle.std.specs.Int.{w128}
use Rattle.std.proofs.lemmas.Int.{ints, to_z-of_z}
use Rattle.answer_text.specs.Lemmas.{IsNumber}
use Rattle.interpretations.specs.machinery.Added.{IsAdded}
use Rattle.interpretations.proofs.literals.turned.Goals as goal

pub returns-clause-added : goal.returns-clause-added
returns-clause-added c =
    let z = c.constant-constant.result in
    let same : FitsSigned w128 z = omega (arith, ints, c.constant-constant.ensures.is, c.constant-constant.ensures.long) in
    let from-nought : pos 0 +ℤ neg_ℤ z ≡ neg_ℤ z = omega (arith, ints) in
    let fits : FitsSigned w128 (pos 0 +ℤ neg_ℤ z) = omega (arith, ints, c.constant-constant.ensures.is, c.constant-constant.ensures.long) in
    let number = simp to_z-of_z at c.in_ok-id.ensures.added in
    subst (λ (n : ℤ). IsAdded (λ nodes k. IsNumber nodes (neg_ℤ n) k) 2 c.args.terms.now.nodes c.number.new.terms.nodes c.in_ok-id.id) c.constant-constant.ensures.is
    (subst (λ (n : ℤ). IsAdded (λ nodes k. IsNumber nodes n k) 2 c.args.terms.now.nodes c.number.new.terms.nodes c.in_ok-id.id) from-nought number)
