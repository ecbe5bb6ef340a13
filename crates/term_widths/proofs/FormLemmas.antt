-- Forms of terms that have room.
use Rattle.std.proofs.Common.{◌≡◌, ℕ, ◌+◌, ◌<◌, List, [], ◌∷◌, ◌++◌, length, map, take, get_or, ap, sym, ◌∙◌}
use Rattle.std.specs.Prelude.{Option, Ok, Err, ℤ}
use Rattle.std.proofs.lemmas.List.{map-append, take_more}
use Rattle.term_tree.specs.declared.node.TermId.{TermId}
use Rattle.term_tree.specs.declared.node.Node.{Node}
use Rattle.lin_atoms.specs.Linear.{Linear}
use Rattle.linear_terms.specs.Linear.{Naming}
use Rattle.term_forms.specs.Found.{form_by, form_or_wide, unless_wide}
use Rattle.term_widths.specs.machinery.Seen.{IsNarrowTerm}

pub form_there : (constant : ℕ → Option ℤ) (naming : Naming) (nodes : List Node) (id : ℕ) → IsNarrowTerm constant naming nodes id → form_or_wide constant naming nodes id ≡ Ok (form_by constant naming nodes id)
form_there constant naming nodes id narrow = ap (λ (o : Option ℕ). unless_wide o (form_by constant naming nodes id)) narrow

pub not_wide : (constant : ℕ → Option ℤ) (naming : Naming) (nodes : List Node) (id at : ℕ) → IsNarrowTerm constant naming nodes id → form_or_wide constant naming nodes id ≡ Err at → ⊥
not_wide constant naming nodes id at narrow wide =
    let both : Ok (form_by constant naming nodes id) ≡ Err at = sym (form_there constant naming nodes id narrow) ∙ wide in
    absurd (cc)

pub form_told : (constant : ℕ → Option ℤ) (naming : Naming) (nodes : List Node) (id : ℕ) (form : Linear) → IsNarrowTerm constant naming nodes id → form_or_wide constant naming nodes id ≡ Ok form → form ≡ form_by constant naming nodes id
form_told constant naming nodes id form narrow told =
    let both : Ok form ≡ Ok (form_by constant naming nodes id) = sym told ∙ form_there constant naming nodes id narrow in
    cc

-- one more form
pub forms_more : (f : TermId → Linear) (ids : List TermId) (i : ℕ) (d : TermId) (forms : List Linear) (form : Linear) → i < length ids → forms ≡ map f (take i ids) → form ≡ f (get_or ids i d)
    → forms ++ form ∷ [] ≡ map f (take (i + 1) ids)
forms_more f ids i d forms form h made is =
    ap (λ (fs : List Linear). fs ++ form ∷ []) made ∙ ap (λ (x : Linear). map f (take i ids) ++ x ∷ []) is
    ∙ sym (ap (map f) (take_more ids i d h) ∙ map-append f (take i ids) (get_or ids i d ∷ []))
