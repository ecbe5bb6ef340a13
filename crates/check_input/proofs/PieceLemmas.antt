-- Integers become values one after another.
use Rattle.std.proofs.Common.{◌≡◌, ◌∙◌, ℕ, ◌+◌, ◌<◌, ◌≤◌, List, [], ◌∷◌, ◌++◌, length, drop, ap, sym, refl, append_assoc, append-nil}
use Rattle.std.proofs.lemmas.List.{at_drop_all, at_drop_more}
use Rattle.std.specs.Prelude.{ℤ, pos, slice_index_or}
use Rattle.term_tree.specs.declared.scalar.Value.{Value}
use Rattle.term_tree.specs.declared.sort.Sort.{Sort}
use Rattle.term_tree.specs.declared.sort.Sort.TheVariants.{Int as IntSort}
use Rattle.term_tree.specs.Truth.{as_value, as_values}

values_past : (sorts : List Sort) → as_values sorts [] ≡ []
values_past [] = refl
values_past (s ∷ sorts) = refl

-- behind the last integer there is no value
pub values_end : (made whole : List Value) (sorts : List Sort) (integers : List ℤ) (i : ℕ) → length integers ≤ i → made ++ as_values (drop i sorts) (drop i integers) ≡ whole → made ≡ whole
values_end made whole sorts integers i past h =
    let none : as_values (drop i sorts) (drop i integers) ≡ [] = at_drop_all (as_values (drop i sorts)) integers i past ∙ values_past (drop i sorts) in
    sym (append-nil made) ∙ sym (ap (λ (vs : List Value). made ++ vs) none) ∙ h

-- one more value
pub values_more : (made whole : List Value) (value : Value) (sorts : List Sort) (integers : List ℤ) (i : ℕ) → i < length sorts → i < length integers
    → value ≡ as_value (slice_index_or sorts i IntSort) (slice_index_or integers i (pos 0)) → made ++ as_values (drop i sorts) (drop i integers) ≡ whole
    → (made ++ (value ∷ [])) ++ as_values (drop (i + 1) sorts) (drop (i + 1) integers) ≡ whole
values_more made whole value sorts integers i less short is h =
    let first = at_drop_more (λ (ss : List Sort). as_values ss (drop i integers)) sorts i IntSort less in
    let second = at_drop_more (λ (ns : List ℤ). as_values (slice_index_or sorts i IntSort ∷ drop (i + 1) sorts) ns) integers i (pos 0) short in
    let rest = as_values (drop (i + 1) sorts) (drop (i + 1) integers) in
    append_assoc made (value ∷ []) rest ∙ ap (λ (v : Value). made ++ (v ∷ rest)) is ∙ sym (ap (λ (vs : List Value). made ++ vs) (first ∙ second)) ∙ h
