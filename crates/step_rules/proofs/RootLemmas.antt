-- What stands at a number of a book with its root above.
use Rattle.std.proofs.Common.{◌≡◌, ℕ, ◌<◌, zero, suc, List, [], ◌∷◌, length, true, Some, None, ap, sym, ◌∙◌, subst}
use Rattle.std.specs.Prelude.{Option, is_some, slice_get}
use mathlib.Core.Bool.{true≢false}
use Rattle.term_tree.specs.declared.sort.Sort.{Sort}
use Rattle.obligation_tree.specs.Nodes.{node_at, obligation_in}
use Rattle.obligation_tree.specs.declared.node.Node.{Node}
use Rattle.obligation_tree.specs.declared.obligation.Obligation.{Obligation as Asked}
use Rattle.book_rules.specs.Places.{obligation_fits}
use Rattle.book_rules.specs.Rooted.{AreRooted, IsRoot}
use Rattle.book_rules.specs.State.{Fact, Obligation}
use Rattle.book_rules.specs.Walks.{AllOf}
use Rattle.step_rules.specs.Views.{fresh_of, obligation_of, obligations_of}
use Rattle.step_rules.proofs.ViewLemmas.{obligation_of-at}

pub all_of-at : {X : Type 0} (P : X → Type 0) (xs : List X) (n : ℕ) (x : X) → slice_get xs n ≡ Some x → AllOf P xs → P x
all_of-at P [] n x there all = absurd (cc)
all_of-at P (y ∷ xs) zero x there all = let same : y ≡ x = cc in subst P same all.0
all_of-at P (y ∷ xs) (suc n) x there all = all_of-at P xs n x there all.1

never : (pred : Option ℕ) → is_some pred ≡ true → pred ≡ None → ⊥
never pred some none = true≢false (sym some ∙ ap is_some none)

bare-at : (level : ℕ) (root : Obligation) (rest : List Obligation) → IsRoot level root → AllOf (λ (o : Obligation). is_some o.pred ≡ true) rest → (n : ℕ) (o : Obligation) → slice_get (root ∷ rest) n ≡ Some o → o.pred ≡ None → o.cube ≡ []
bare-at level root rest is others zero o there none =
    let same : root ≡ o = cc in
    ap (λ (x : Obligation). x.cube) (sym same) ∙ sym (ap (λ (x : Obligation). x.cube) is)
bare-at level root rest is others (suc n) o there none = absurd (never o.pred (all_of-at (λ (x : Obligation). is_some x.pred ≡ true) rest n o there others) none)

-- an obligation without predicate is the root, whose cube has no literal
pub bare : (level : ℕ) (facts : List Fact) (os : List Obligation) → AreRooted level facts os → (n : ℕ) (o : Obligation) → slice_get os n ≡ Some o → o.pred ≡ None → o.cube ≡ []
bare level facts os rooted n o there = bare-at level rooted.root rooted.rest rooted.is_root rooted.others n o (sym (ap (λ (xs : List Obligation). slice_get xs n) rooted.first) ∙ there)

-- the same of what the tree lends at a number
pub bare-asked : (level : ℕ) (facts : List Fact) (nodes : List Node) → AreRooted level facts (obligations_of nodes) → (n : ℕ) → n < length nodes → (o : Asked) → o ≡ obligation_in (node_at nodes n) → o.pred ≡ None → o.cube ≡ []
bare-asked level facts nodes rooted n within o is none =
    ap (λ (x : Asked). x.cube) is ∙ bare level facts (obligations_of nodes) rooted n (obligation_of (node_at nodes n)) (obligation_of-at nodes n within) (ap (λ (x : Asked). x.pred) (sym is) ∙ none)

pub fits-asked : (preds : List (List Sort)) (nodes : List Node) → AllOf (λ (o : Obligation). obligation_fits preds o ≡ true) (obligations_of nodes) → (n : ℕ) → n < length nodes → (o : Asked) → o ≡ obligation_in (node_at nodes n) → obligation_fits preds (fresh_of o) ≡ true
fits-asked preds nodes over n within o is =
    ap (λ (x : Asked). obligation_fits preds (fresh_of x)) is ∙ all_of-at (λ (x : Obligation). obligation_fits preds x ≡ true) (obligations_of nodes) n (obligation_of (node_at nodes n)) (obligation_of-at nodes n within) over
