-- The names of parameters found in a set.
use Rattle.std.proofs.Common.{◌≡◌, ℕ, List, [], ◌∷◌, ◌++◌, map, not, false, true, Bool, refl, sym, ap, ◌∙◌}
use Rattle.std.proofs.lemmas.List.{map-append}
use Rattle.indexmap.specs.IndexSet.{insert_key}
use Rattle.term_tree.specs.declared.sort.Sort.{Sort}
use Rattle.term_tree.specs.declared.script.Name.{Name}
use Rattle.term_check.specs.Words.{is_word_among}
use Rattle.term_check.proofs.Public.{name_added}
use Rattle.keyed_hash.specs.declared.name.NameKey.{NameKey}
use Rattle.answer_text.proofs.NameLemmas.{same_name}

abbrev names_of : List (Name × Sort) → List (List ℕ)
names_of params = map (λ p. p.0.bytes) params

absent : (b : Bool) → not b ≡ true → b ≡ false
absent true h = sym h
absent false h = refl

-- with one more name
pub parameter_added : (keys new : List NameKey) (key : NameKey) (params all : List (Name × Sort)) (bytes : List ℕ) (sort : Sort) → new ≡ insert_key same_name keys key
    → all ≡ params ++ (record { bytes = bytes }, sort) ∷ [] → bytes ≡ key.bytes.now → not (is_word_among (names_of params) key.bytes.now) ≡ true
    → map (λ k. k.bytes.now) keys ≡ names_of params → map (λ k. k.bytes.now) new ≡ names_of all
parameter_added keys new key params all bytes sort is whole same none found =
    name_added (λ (k : NameKey). k.bytes.now) keys new key is (ap (λ (names : List (List ℕ)). is_word_among names key.bytes.now) found ∙ absent (is_word_among (names_of params) key.bytes.now) none)
    ∙ ap (λ (names : List (List ℕ)). names ++ key.bytes.now ∷ []) found ∙ ap (λ (b : List ℕ). names_of params ++ b ∷ []) (sym same)
    ∙ sym (map-append (λ p. p.0.bytes) params ((record { bytes = bytes }, sort) ∷ [])) ∙ ap names_of (sym whole)
