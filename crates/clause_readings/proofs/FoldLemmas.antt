-- Terms that match are the same constants, and have the same sorts.
use Rattle.std.proofs.Common.{◌≡◌, ℕ, List, map, ap, sym, ◌∙◌}
use Rattle.std.specs.Prelude.{slice_get, Option, None, option_map, ℤ, if◌then◌else◌}
use Rattle.std.specs.List.{list_all}
use Rattle.term_tree.specs.declared.sort.Sort.{Sort}
use Rattle.term_tree.specs.declared.sort.Sort.TheVariants.{Int, Bool as Truth}
use Rattle.term_tree.specs.declared.script.Pred.{Pred as Declared}
use Rattle.term_tree.specs.declared.node.TermId.{TermId}
use Rattle.term_tree.specs.declared.node.Node.{Node}
use Rattle.term_tree.specs.declared.node.Node.TheVariants.{Num, True, False, Var, LetVar, Pred, Op, Divisible, Let, Forall, Exists}
use Rattle.term_tree.specs.Arena.{IsArena}
use Rattle.term_tree.specs.Constants.{node_constant, constant_of, is_arithmetic, integer_result, all_constant}
use Rattle.term_tree.specs.Sorts.{node_sort, sort_of, predicate_sort, operation_sort, sort_if, has_sort, is_sorted}
use Rattle.term_tree.proofs.Public.{constant_at, sort_at}
use Rattle.clause_readings.specs.Matching.{IsNodeLike, AreNodesLike}
use Rattle.clause_readings.proofs.InductionLemmas.{With, by_two, same_map}

module _ (f g : ℕ → Option ℤ) (matched : ℕ → ℕ → Type 0) where
  constant_step : (node other : Node) → IsNodeLike (With matched (λ c d. f c ≡ g d)) node other → node_constant f node ≡ node_constant g other
  constant_step (Num k) other h = ap (node_constant g) (sym h)
  constant_step True other h = ap (node_constant g) (sym h)
  constant_step False other h = ap (node_constant g) (sym h)
  constant_step (Var binder sort) other h = ap (node_constant g) (sym h)
  constant_step (LetVar bound) other h = h.2.1 ∙ ap (node_constant g) (sym h.1)
  constant_step (Pred pred args) other h = ap (node_constant g) (sym h.1)
  constant_step (Op op args) other h =
      ap (λ (given : List (Option ℤ)). if is_arithmetic op then option_map (integer_result op) (all_constant given) else None) (same_map f g matched args h.0 h.2)
      ∙ ap (node_constant g) (sym h.1)
  constant_step (Divisible by arg) other h = ap (node_constant g) (sym h.1)
  constant_step (Let bound body) other h = h.4.1 ∙ ap (node_constant g) (sym h.2)
  constant_step (Forall first sorts body) other h = ap (node_constant g) (sym h.1)
  constant_step (Exists first sorts body) other h = ap (node_constant g) (sym h.1)

module _ (preds : List Declared) (f g : ℕ → Option Sort) (matched : ℕ → ℕ → Type 0) where
  sort_step : (node other : Node) → IsNodeLike (With matched (λ c d. f c ≡ g d)) node other → node_sort preds f node ≡ node_sort preds g other
  sort_step (Num k) other h = ap (node_sort preds g) (sym h)
  sort_step True other h = ap (node_sort preds g) (sym h)
  sort_step False other h = ap (node_sort preds g) (sym h)
  sort_step (Var binder sort) other h = ap (node_sort preds g) (sym h)
  sort_step (LetVar bound) other h = h.2.1 ∙ ap (node_sort preds g) (sym h.1)
  sort_step (Pred pred args) other h = ap (predicate_sort (slice_get preds pred)) (same_map f g matched args h.0 h.2) ∙ ap (node_sort preds g) (sym h.1)
  sort_step (Op op args) other h = ap (operation_sort op) (same_map f g matched args h.0 h.2) ∙ ap (node_sort preds g) (sym h.1)
  sort_step (Divisible by arg) other h = ap (λ (s : Option Sort). sort_if (has_sort Int s) Truth) h.2.1 ∙ ap (node_sort preds g) (sym h.1)
  sort_step (Let bound body) other h =
      ap (λ (given : List (Option Sort)). if list_all is_sorted given then f body.0 else None) (same_map f g matched bound h.0 h.3)
      ∙ ap (λ (s : Option Sort). if list_all is_sorted (map (λ (b : TermId). g b.0) h.0) then s else None) h.4.1
      ∙ ap (node_sort preds g) (sym h.2)
  sort_step (Forall first sorts body) other h = ap (λ (s : Option Sort). sort_if (has_sort Truth s) Truth) h.2.1 ∙ ap (node_sort preds g) (sym h.1)
  sort_step (Exists first sorts body) other h = ap (λ (s : Option Sort). sort_if (has_sort Truth s) Truth) h.2.1 ∙ ap (node_sort preds g) (sym h.1)

module _ (nodes others : List Node) (matched : ℕ → ℕ → Type 0) (arena : IsArena nodes) (other_arena : IsArena others) (like : AreNodesLike nodes others matched) where
  pub same_constant : (a b : ℕ) → matched a b → constant_of nodes a ≡ constant_of others b
  same_constant = by_two nodes others matched (λ a b. constant_of nodes a ≡ constant_of others b) arena other_arena like (λ a b node other is there there_too below below_too parts.
      constant_at nodes a node there below ∙ constant_step (constant_of nodes) (constant_of others) matched node other parts ∙ sym (constant_at others b other there_too below_too))

  pub same_sort_of : (preds : List Declared) (a b : ℕ) → matched a b → sort_of preds nodes a ≡ sort_of preds others b
  same_sort_of preds = by_two nodes others matched (λ a b. sort_of preds nodes a ≡ sort_of preds others b) arena other_arena like (λ a b node other is there there_too below below_too parts.
      sort_at preds nodes a node there below ∙ sort_step preds (sort_of preds nodes) (sort_of preds others) matched node other parts ∙ sym (sort_at preds others b other there_too below_too))
