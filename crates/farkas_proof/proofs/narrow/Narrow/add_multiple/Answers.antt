use Rattle.std.proofs.Common.{rules, ◌<◌, ◌^◌, ◌++◌, List, ℕ, ap, ◌∙◌, arith, FitsSigned}
use Rattle.std.specs.Prelude.{ℤ, nat_abs, neg_ℤ, ◌+ℤ◌, ◌*ℤ◌}
use Rattle.std.specs.Int.{w64, w128}
use Rattle.std.proofs.lemmas.Int.{ints, to_z-of_z}
use Rattle.lin_atoms.specs.Algebra.{collected, scaled_terms}
use Rattle.lin_atoms.specs.Linear.{are_ordered}
use Rattle.farkas_proof.proofs.NarrowLemmas.{linear-ordered, negated-less, no-items, same-parts}
use Rattle.farkas_proof.proofs.SumLemmas.{ordered-made}
use Rattle.farkas_proof.proofs.narrow.Narrow.add_multiple.Goals as goal

pub returns-else-not-merge-clause-value : goal.returns-else-not-merge-clause-value
returns-else-not-merge-clause-value c =
    let self = c.args.self.now in
    let k = c.args.k in
    let k_fits : FitsSigned w64 k = c.ranges.k in
    let n_fits : FitsSigned w64 c.in-Some.negated = search rules in
    let s_fits : FitsSigned w64 self.negated = search rules in
    let small : nat_abs c.constant.result < 2 ^ 64 = rw c.constant.ensures.is c.constant.ensures.long in
    let a_fits : FitsSigned w128 c.constant.result = omega (arith, ints, small) in
    let merged = simp to_z-of_z at (c.merge.ensures c.if-not-merge.false) in
    let terms = ap (λ v. v.items) c.swap.ensures.x_after ∙ merged
    ∙ ap (λ (ts : List (ℕ × ℤ)). collected (scaled_terms k ts ++ c.as_slice.result.now)) c.terms-in-Some.ensures.is ∙ ap (λ (ts : List (ℕ × ℤ)). collected (scaled_terms k c.args.lin.now.terms ++ ts)) c.as_slice.ensures.value in
    let less = simp to_z-of_z at c.in-Some.ensures in
    let constant = negated-less c.in-Some.negated self.negated (k *ℤ c.constant.result) less ∙ ap (λ z. k *ℤ z +ℤ neg_ℤ self.negated) c.constant.ensures.is in
    λ _. simp to_z-of_z (same-parts c.swap.new.x.items (collected (scaled_terms k c.args.lin.now.terms ++ self.terms.items)) (neg_ℤ c.in-Some.negated) (k *ℤ c.args.lin.now.constant +ℤ neg_ℤ self.negated) terms constant)

pub returns-else-not-merge-clause-ordered : goal.returns-else-not-merge-clause-ordered
returns-else-not-merge-clause-ordered c =
    let k_fits : FitsSigned w64 c.args.k = c.ranges.k in
    let merged = simp to_z-of_z at (c.merge.ensures c.if-not-merge.false) in
    λ _. ap (λ v. are_ordered 0 v.items) c.swap.ensures.x_after ∙ ordered-made c.merge.new.made.items (scaled_terms c.args.k c.terms-in-Some.result.now ++ c.as_slice.result.now) merged

pub returns-then-is_empty-clause-ordered : goal.returns-then-is_empty-clause-ordered
returns-then-is_empty-clause-ordered c = λ done.
    let k_fits : FitsSigned w64 c.args.k = c.ranges.k in
    let made = simp to_z-of_z at (c.put_multiple.ensures done) in
    ordered-made c.put_multiple.new.terms.items (scaled_terms c.args.k c.terms.result.now ++ c.args.self.now.terms.items) made

pub returns-then-is_empty-clause-value : goal.returns-then-is_empty-clause-value
returns-then-is_empty-clause-value c = λ done.
    let self = c.args.self.now in
    let k = c.args.k in
    let k_fits : FitsSigned w64 k = c.ranges.k in
    let n_fits : FitsSigned w64 c.in-Some.negated = search rules in
    let s_fits : FitsSigned w64 self.negated = search rules in
    let small : nat_abs c.constant.result < 2 ^ 64 = rw c.constant.ensures.is c.constant.ensures.long in
    let a_fits : FitsSigned w128 c.constant.result = omega (arith, ints, small) in
    let made = simp to_z-of_z at (c.put_multiple.ensures done) in
    let terms = made ∙ ap (λ (ts : List (ℕ × ℤ)). collected (scaled_terms k ts ++ self.terms.items)) c.terms.ensures.is in
    let less = simp to_z-of_z at c.in-Some.ensures in
    let constant = negated-less c.in-Some.negated self.negated (k *ℤ c.constant.result) less ∙ ap (λ z. k *ℤ z +ℤ neg_ℤ self.negated) c.constant.ensures.is in
    simp to_z-of_z (same-parts c.put_multiple.new.terms.items (collected (scaled_terms k c.args.lin.now.terms ++ self.terms.items)) (neg_ℤ c.in-Some.negated) (k *ℤ c.args.lin.now.constant +ℤ neg_ℤ self.negated) terms constant)

pub put_multiple-requires-clause-rising : goal.put_multiple-requires-clause-rising
put_multiple-requires-clause-rising c = ap (are_ordered 0) c.terms.ensures.is ∙ linear-ordered c.args.lin.now c.terms.ensures.legal

pub merge-requires-clause-ours : goal.merge-requires-clause-ours
merge-requires-clause-ours c = ap (are_ordered 0) c.terms-in-Some.ensures.is ∙ linear-ordered c.args.lin.now c.terms-in-Some.ensures.legal

pub merge-requires-clause-theirs : goal.merge-requires-clause-theirs
merge-requires-clause-theirs c = ap (are_ordered 0) c.as_slice.ensures.value ∙ c.requires

pub put_multiple-requires-clause-empty : goal.put_multiple-requires-clause-empty
put_multiple-requires-clause-empty c = no-items c.args.self.now.terms c.if-is_empty.ensures
