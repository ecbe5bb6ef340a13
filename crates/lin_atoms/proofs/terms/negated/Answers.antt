use Rattle.std.proofs.Common.{◌<◌, ◌≡◌, ◌^◌, ap, ◌∙◌, sym, FitsSigned, get_or, ◌++◌, ◌∷◌, []}
use Rattle.std.specs.Prelude.{pos, neg_ℤ, ◌-ℤ◌, nat_abs}
use Rattle.std.specs.Int.{w64}
use Rattle.std.proofs.lemmas.Int.{to_z-of_z}
use Rattle.lin_atoms.proofs.LinearLemmas.{minus-fits, minus-is, small_at, small-fits, negated_terms-more}
use Rattle.lin_atoms.proofs.terms.negated.Goals as goal

pub overflow_sub-coefficient : goal.overflow_sub-coefficient
overflow_sub-coefficient c =
    let a = (get_or c.args.terms.now c.loop-variable.variable-index (0, pos 0)).1 in
    let small : nat_abs a < 2 ^ 63 = small_at c.args.terms.now c.loop-variable.variable-index (0, pos 0) c.loop-variable-test.true c.requires in
    let a_fits : FitsSigned w64 a = small-fits a small in
    let fits : FitsSigned w64 (pos 0 -ℤ a) = minus-fits a small in
    simp to_z-of_z fits

pub loop-variable-preserved : goal.loop-variable-preserved
loop-variable-preserved c =
    let i = c.loop-variable.variable-index in
    let a = (get_or c.args.terms.now i (0, pos 0)).1 in
    let small : nat_abs a < 2 ^ 63 = small_at c.args.terms.now i (0, pos 0) c.loop-variable-test.true c.requires in
    let a_fits : FitsSigned w64 a = small-fits a small in
    let fits : FitsSigned w64 (pos 0 -ℤ a) = minus-fits a small in
    let pushed = simp to_z-of_z at c.in_ok-push.ensures.items in
    pushed ∙ ap (λ z. c.loop-variable.made.items ++ ((get_or c.args.terms.now i (0, pos 0)).0, z) ∷ []) (minus-is a)
    ∙ ap (λ ys. ys ++ ((get_or c.args.terms.now i (0, pos 0)).0, neg_ℤ a) ∷ []) c.loop-variable.invariant ∙ sym (negated_terms-more c.args.terms.now i (0, pos 0) c.loop-variable-test.true)
