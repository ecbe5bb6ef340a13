-- One parameter more.
use Rattle.std.proofs.Common.{◌≡◌, ℕ, ◌+◌, ◌<◌, List, [], ◌∷◌, ◌++◌, length, drop, map, ap, sym, ◌∙◌, append_assoc}
use Rattle.std.proofs.lemmas.List.{at_drop_more, map-append}
use Rattle.std.specs.List.{enumerate_from}
use Rattle.term_tree.specs.declared.sort.Sort.{Sort}
use Rattle.term_tree.specs.declared.sort.Sort.TheVariants.{Int}
use Rattle.term_tree.specs.declared.script.Name.{Name}
use Rattle.answer_text.specs.Terms.{parameter_name}

abbrev bytes-of : List Name → List (List ℕ)
bytes-of names = map (λ name. name.bytes) names

abbrev names-from : ℕ → List Sort → List (List ℕ)
names-from number sorts = map (λ p. parameter_name p.0) (enumerate_from number sorts)

pub one-more-name : (sorts : List Sort) (number : ℕ) (names new : List Name) (all : List (List ℕ)) (name : Name) → number < length sorts → new ≡ names ++ name ∷ [] → name.bytes ≡ parameter_name number
    → bytes-of names ++ names-from number (drop number sorts) ≡ all → bytes-of new ++ names-from (number + 1) (drop (number + 1) sorts) ≡ all
one-more-name sorts number names new all name less is named h =
    let rest : List (List ℕ) = names-from (number + 1) (drop (number + 1) sorts) in
    ap (λ (ns : List Name). bytes-of ns ++ rest) is ∙ ap (λ (bs : List (List ℕ)). bs ++ rest) (map-append (λ (n : Name). n.bytes) names (name ∷ []))
    ∙ append_assoc (bytes-of names) (name.bytes ∷ []) rest ∙ ap (λ (b : List ℕ). bytes-of names ++ b ∷ rest) named
    ∙ sym (at_drop_more (λ (ss : List Sort). bytes-of names ++ names-from number ss) sorts number Int less) ∙ h
