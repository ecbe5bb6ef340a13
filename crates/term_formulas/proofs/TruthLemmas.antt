-- A relation of two integer terms as the formula of its term.
use Rattle.std.proofs.Common.{◌≡◌, ℕ, List, [], ◌∷◌, map, Bool, true, false, refl, ap, sym, ◌∙◌}
use Rattle.std.specs.Prelude.{ℤ, Option, Some, slice_get}
use Rattle.term_tree.specs.declared.node.TermId.{TermId}
use Rattle.term_tree.specs.declared.node.OpKind.{OpKind}
use Rattle.term_tree.specs.declared.node.OpKind.TheVariants.{Not, And, Or, Implies, Xor, Ite}
use Rattle.term_tree.specs.declared.node.Node.{Node}
use Rattle.term_tree.specs.declared.node.Node.TheVariants.{Op}
use Rattle.term_tree.specs.Arena.{IsArena}
use Rattle.term_tree.proofs.Public.{arena_below}
use Rattle.linear_terms.specs.Linear.{Naming, bit_of, less}
use Rattle.linear_terms.specs.Text.{Sorting, are_truths}
use Rattle.linear_terms.specs.Formula.{comparison, related}
use Rattle.linear_terms.specs.Width.{is_relation}
use Rattle.linear_terms.proofs.Public.{formula_at}
use Rattle.term_forms.specs.Found.{form_by}
use Rattle.term_formulas.specs.Written.{formula_by, reading_by}
use Rattle.term_formulas.proofs.ArgumentLemmas.{other_operation}
use Rattle.term_formulas.proofs.PairLemmas.{two-related}

no_relation : (op other : OpKind) → is_relation op ≡ true → is_relation other ≡ false → op ≡ other → ⊥
no_relation op other h none same = cc (ap is_relation same)

pub related_formula : (constant : ℕ → Option ℤ) (sorts : Sorting) (naming : Naming) (nodes : List Node) (id : ℕ) (op : OpKind) (a b : TermId) (sign : Bool) → IsArena nodes
    → slice_get nodes id ≡ Some (Op op (a ∷ b ∷ [])) → are_truths sorts (a ∷ b ∷ []) ≡ false → is_relation op ≡ true
    → related op sign (less (form_by constant naming nodes a.0) (form_by constant naming nodes b.0)) ≡ formula_by constant sorts naming nodes id sign
related_formula constant sorts naming nodes id op a b sign arena is numbers relation =
    let reading = reading_by constant sorts naming nodes in
    let part = formula_by constant sorts naming nodes in
    let args : List TermId = a ∷ b ∷ [] in
    two-related op sign (form_by constant naming nodes a.0) (form_by constant naming nodes b.0)
    ∙ sym (ap (λ (truths : Bool). comparison op truths sign (map (λ (arg : TermId). bit_of naming nodes arg.0) args) (map (λ (arg : TermId). form_by constant naming nodes arg.0) args)) numbers)
    ∙ sym (other_operation reading part op args sign (no_relation op Not relation refl) (no_relation op And relation refl) (no_relation op Or relation refl) (no_relation op Implies relation refl)
    (no_relation op Xor relation refl) (no_relation op Ite relation refl))
    ∙ sym (formula_at reading naming nodes id sign (Op op args) is (arena_below nodes id (Op op args) arena is))
