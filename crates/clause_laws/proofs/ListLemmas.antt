-- Lists of forms, values and places.
use Rattle.std.proofs.Common.{◌≡◌, ℕ, zero, suc, ◌+◌, ◌<◌, List, [], ◌∷◌, length, Bool, true, false, ◌&&◌, refl, ap, sym, ◌∙◌, arith}
use Rattle.std.specs.Prelude.{slice_get, Some, ℤ}
use Rattle.std.specs.List.{list_all}
use Rattle.term_tree.specs.declared.sort.Sort.{Sort}
use Rattle.term_tree.specs.declared.node.Node.{Node}
use Rattle.term_tree.specs.declared.scalar.Value.{Value}
use Rattle.term_tree.specs.Truth.{HaveSorts}
use Rattle.term_tree.proofs.Public.{both_true}
use Rattle.lin_atoms.specs.Truth.{truth}
use Rattle.linear_terms.specs.Text.{Sorting}
use Rattle.linear_terms.specs.Linear.{Naming}
use Rattle.linear_terms.specs.Place.{place_form}
use Rattle.clause_normal.specs.Normal.{place_forms}

pub have_length : (sorts : List Sort) (values : List Value) → HaveSorts sorts values → length values ≡ length sorts
have_length [] [] have = refl
have_length [] (v ∷ values) have = absurd have
have_length (s ∷ sorts) [] have = absurd have
have_length (s ∷ sorts) (v ∷ values) have = ap suc (have_length sorts values have.1)

pub there_at : (xs : List ℕ) (i : ℕ) → i < length xs → (x : ℕ) × (slice_get xs i ≡ Some x)
there_at [] i less = absurd (omega (arith, less))
there_at (x ∷ xs) zero less = (x, refl)
there_at (x ∷ xs) (suc i) less = there_at xs i (omega (arith, less))

-- the forms of places, one by one
module _ (point : List ℤ) (sorts : Sorting) (naming : Naming) (nodes : List Node) where
  pub places_all : (v : ℕ) (ids : List ℕ) → ((i id : ℕ) → slice_get ids i ≡ Some id → truth point (place_form sorts naming nodes (v + i) id) ≡ true)
      → list_all (truth point) (place_forms sorts naming nodes v ids) ≡ true
  places_all v [] each = refl
  places_all v (id ∷ ids) each =
      both_hold (truth point (place_form sorts naming nodes v id)) (list_all (truth point) (place_forms sorts naming nodes (v + 1) ids))
      (ap (λ (k : ℕ). truth point (place_form sorts naming nodes k id)) (none v) ∙ each 0 id refl)
      (places_all (v + 1) ids (λ i k at. ap (λ (j : ℕ). truth point (place_form sorts naming nodes j k)) (shifted v i) ∙ each (suc i) k at))
    where
      none : (v : ℕ) → v ≡ v + 0
      none v = omega arith

      shifted : (v i : ℕ) → (v + 1) + i ≡ v + suc i
      shifted v i = omega arith

      both_hold : (a b : Bool) → a ≡ true → b ≡ true → (a && b) ≡ true
      both_hold true b h k = k
      both_hold false b h k = h

  pub places_each : (v : ℕ) (ids : List ℕ) → list_all (truth point) (place_forms sorts naming nodes v ids) ≡ true → (i id : ℕ) → slice_get ids i ≡ Some id
      → truth point (place_form sorts naming nodes (v + i) id) ≡ true
  places_each v [] all i id at = absurd (cc)
  places_each v (k ∷ ids) all zero id at =
      let same : k ≡ id = cc in
      ap (λ (j : ℕ). truth point (place_form sorts naming nodes j id)) (none v) ∙ ap (λ (n : ℕ). truth point (place_form sorts naming nodes v n)) (sym same)
      ∙ (both_true (truth point (place_form sorts naming nodes v k)) (list_all (truth point) (place_forms sorts naming nodes (v + 1) ids)) all).0
    where
      none : (v : ℕ) → v + 0 ≡ v
      none v = omega arith
  places_each v (k ∷ ids) all (suc i) id at =
      ap (λ (j : ℕ). truth point (place_form sorts naming nodes j id)) (shifted v i)
      ∙ places_each (v + 1) ids (both_true (truth point (place_form sorts naming nodes v k)) (list_all (truth point) (place_forms sorts naming nodes (v + 1) ids)) all).1 i id at
    where
      shifted : (v i : ℕ) → v + suc i ≡ (v + 1) + i
      shifted v i = omega arith
