use Rattle.std.proofs.Common.{ℕ, ap, ◌∙◌, rules, FitsSigned}
use Rattle.std.specs.Int.{w64}
use Rattle.std.proofs.lemmas.Int.{to_z-of_z}
use Rattle.refutation_trees.specs.Refutation.{form_end}
use Rattle.lia_stack.specs.machinery.Searched.{value_of}
use Rattle.lia_stack.proofs.SearchLemmas.{cut-more}
use Rattle.lia_stack.proofs.cutting.cut.Goals as goal

pub cut-preserved : goal.cut-preserved
cut-preserved c =
    let fits : FitsSigned w64 c.value.result = search rules in
    let items = simp to_z-of_z at c.in_ok-push.ensures.items in
    let is = c.value.ensures ∙ ap (λ (n : ℕ). value_of c.args.point.now c.cut.variable n) c.form_end-end.ensures.is in
    cut-more c.args.point.now (form_end c.args.form.now) c.cut.variable _ _ _ c.cut.invariant is items
