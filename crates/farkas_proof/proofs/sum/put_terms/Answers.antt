use Rattle.std.proofs.Common.{◌+◌, ◌++◌, List, ℕ, ap, sym, ◌∙◌, drop, get_or, rules, FitsSigned}
use Rattle.std.specs.Prelude.{ℤ, pos, ◌*ℤ◌}
use Rattle.std.specs.Int.{w64}
use Rattle.std.proofs.lemmas.Int.{to_z-of_z}
use Rattle.lin_atoms.specs.Algebra.{scaled_terms}
use Rattle.lin_atoms.proofs.Public.{push-term, scaled-drop, scaled-end}
use Rattle.farkas_proof.specs.machinery.Sum.{seen}
use Rattle.farkas_proof.proofs.sum.put_terms.Goals as goal

pub loop-variable-preserved : goal.loop-variable-preserved
loop-variable-preserved c =
    let i = c.loop-variable.variable-index in
    let k = c.args.k in
    let ts = c.args.added.now in
    let made = seen c.loop-variable.terms.items in
    let v = (get_or ts i (0, pos 0)).0 in
    let a = (get_or ts i (0, pos 0)).1 in
    let k_fits : FitsSigned w64 k = c.ranges.k in
    let a_fits : FitsSigned w64 a = search rules in
    let pushed = simp to_z-of_z at c.in_ok-push_product.ensures.value in
    let rest = scaled_terms k (drop (i + 1) ts) in
    record {
      value = simp to_z-of_z (push-term made rest (seen c.push_product.new.terms.items) v (k *ℤ a) pushed ∙ ap (λ (xs : List (ℕ × ℤ)). made ++ xs) (sym (scaled-drop k ts i (0, pos 0) c.loop-variable-test.true)) ∙ simp to_z-of_z at c.loop-variable.invariant.value);
      counted = c.in_ok-push_product.ensures.counted;
    }

pub returns-clause-value : goal.returns-clause-value
returns-clause-value c =
    let k_fits : FitsSigned w64 c.args.k = c.ranges.k in
    scaled-end c.args.k (seen c.loop-variable.terms.items) c.args.added.now _ c.loop-variable.variable-index c.loop-variable-test.false (simp to_z-of_z at c.loop-variable.invariant.value)
