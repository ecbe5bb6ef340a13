use Rattle.std.proofs.Common.{◌∙◌, ap, sym, rules, FitsSigned, List, ℕ, [], ◌∷◌}
use Rattle.std.specs.Prelude.{ℤ}
use Rattle.std.specs.Int.{w64}
use Rattle.std.proofs.lemmas.Int.{to_z-of_z}
use Rattle.refutation_trees.specs.declared.tree.Refutation.{Refutation}
use Rattle.refutation_trees.specs.declared.tree.Refutation.TheViews.{Round}
use Rattle.lia_close.specs.declared.leaf.Rounding.{Rounding}
use Rattle.lia_close.specs.machinery.Closing.{under}
use Rattle.lia_close.proofs.StackLemmas.{under-push}
use Rattle.lia_close.proofs.leaf.Leaf.tree.Goals as goal

pub under-preserved : goal.under-preserved
under-preserved c =
    let r : Rounding = c.in-Some.rounding in
    let d_fits : FitsSigned w64 r.divisor = search rules in
    let s_fits : FitsSigned w64 r.sign = search rules in
    let ms = simp to_z-of_z at c.in_ok-from_slice.ensures in
    let new : List Rounding = c.pop.new.self.items in
    let sub : Refutation = c.in_ok-new.field-0 in
    simp to_z-of_z (ap (λ (m : List (ℕ × ℤ)). under new (Round m r.divisor sub)) ms ∙ ap (λ (t : Refutation). under new (Round ((r.number, r.sign) ∷ []) r.divisor t)) c.in_ok-new.ensures
    ∙ sym (under-push new c.under.roundings.items r c.under.tree c.in-Some.ensures.items) ∙ c.under.invariant)
