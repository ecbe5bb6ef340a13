use Rattle.std.proofs.Common.{arith, ap, ◌∙◌, ◌≡◌, ◌+◌, ◌++◌, ◌<◌, ◌^◌, FitsSigned, rules}
use Rattle.std.specs.Prelude.{ℤ, neg_ℤ, ◌+ℤ◌, ◌*ℤ◌, List, ℕ, nat_abs}
use Rattle.std.specs.Int.{w64, w128}
use Rattle.std.proofs.lemmas.Int.{ints, to_z-of_z}
use Rattle.lin_atoms.specs.Algebra.{collected, scaled_terms}
use Rattle.lin_atoms.specs.Linear.{Linear}
use Rattle.farkas_proof.specs.machinery.Sum.{seen}
use Rattle.farkas_proof.proofs.SumLemmas.{counted-weaker, negated-sum, ordered-made}
use Rattle.farkas_proof.proofs.sum.Sum.add_multiple.Goals as goal

made : List (ℕ × ℤ) → ℤ → Linear
made ts k = record { terms = ts; constant = k }

same_parts : (ts us : List (ℕ × ℤ)) (j k : ℤ) → ts ≡ us → j ≡ k → made ts j ≡ made us k
same_parts ts us j k e f = ap (λ (vs : List (ℕ × ℤ)). made vs j) e ∙ ap (made us) f

pub returns-clause-value : goal.returns-clause-value
unfolding made
returns-clause-value c =
    let k_fits : FitsSigned w64 c.args.k = c.ranges.k in
    let small : nat_abs c.constant.result < 2 ^ 64 = rw c.constant.ensures.is c.constant.ensures.long in
    let a_fits : FitsSigned w128 c.constant.result = omega (arith, ints, small) in
    let terms = simp to_z-of_z at c.in_ok-products.ensures.value in
    let constant = simp to_z-of_z at c.add_negated.ensures.value in
    let is = negated-sum c.add_negated.new.total.value c.args.self.now.negated.value c.args.k c.constant.result constant in
    same_parts (seen c.add_terms.new.terms.items) (collected (scaled_terms c.args.k c.args.lin.now.terms ++ seen c.args.self.now.terms.items)) (neg_ℤ c.add_negated.new.total.value) (c.args.k *ℤ c.args.lin.now.constant +ℤ neg_ℤ c.args.self.now.negated.value)
    (terms ∙ ap (λ (ts : List (ℕ × ℤ)). collected (scaled_terms c.args.k ts ++ seen c.args.self.now.terms.items)) c.terms.ensures.is)
    (is ∙ ap (λ n. c.args.k *ℤ n +ℤ neg_ℤ c.args.self.now.negated.value) c.constant.ensures.is)

pub returns-clause-fine : goal.returns-clause-fine
returns-clause-fine c =
    let k_fits : FitsSigned w64 c.args.k = c.ranges.k in
    let terms = simp to_z-of_z at c.in_ok-products.ensures.value in
    let fine = c.requires.fine in
    record {
      ordered = ordered-made (seen c.add_terms.new.terms.items) (scaled_terms c.args.k c.terms.result.now ++ seen c.args.self.now.terms.items) terms;
      counted = counted-weaker c.in_ok-products.products (c.in_ok-products.products + 1) c.add_terms.new.terms.items (omega arith) c.in_ok-products.ensures.counted;
      constant = omega (arith, c.add_negated.ensures.added, fine.constant, c.in_ok-products.ensures.more);
      within = search rules;
    }
