-- Names that are keys of a set.
use Rattle.std.proofs.Common.{◌≡◌, ℕ, List, [], ◌∷◌, ◌++◌, map, false, ◌||◌, if◌then◌else◌, refl, ap, ◌∙◌}
use Rattle.std.proofs.lemmas.List.{map-append}
use Rattle.std.specs.List.{list_any}
use Rattle.std.specs.Str.{bytes_eq}
use Rattle.indexmap.specs.IndexSet.{insert_key}
use Rattle.term_check.specs.Words.{is_word_among}

module _ {K : Type 0} (bytes : K → List ℕ) where
  -- a name is found among the keys where it is one of their names
  pub any_named : (ks : List K) (name : List ℕ) → list_any (λ k. bytes_eq name (bytes k)) ks ≡ is_word_among (map bytes ks) name
  any_named [] name = refl
  any_named (k ∷ ks) name = ap (λ rest. bytes_eq name (bytes k) || rest) (any_named ks name)

  -- a new name goes last
  pub name_added : (ks new : List K) (key : K) → new ≡ insert_key (λ a b. bytes_eq (bytes a) (bytes b)) ks key → is_word_among (map bytes ks) (bytes key) ≡ false
      → map bytes new ≡ map bytes ks ++ bytes key ∷ []
  name_added ks new key is none =
      ap (map bytes) (is ∙ ap (λ b. if b then ks else ks ++ key ∷ []) (any_named ks (bytes key) ∙ none)) ∙ map-append bytes ks (key ∷ [])
