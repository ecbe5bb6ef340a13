-- One definition more.
use Rattle.std.proofs.Common.{◌≡◌, ℕ, ◌+◌, ◌^◌, ◌<◌, ◌≤◌, List, [], ◌∷◌, ◌++◌, length, drop, map, get_or, true, refl, ap, sym, ◌∙◌, subst, append_assoc, append-nil, arith}
use Rattle.std.proofs.lemmas.List.{drop_all, drop_more}
use Rattle.std.specs.Prelude.{slice_get, Some}
use Rattle.std.specs.List.{enumerate_from}
use Rattle.term_tree.specs.declared.node.TermId.{TermId}
use Rattle.term_tree.specs.declared.sort.Sort.{Sort}
use Rattle.term_tree.specs.declared.node.Node.{Node}
use Rattle.term_tree.specs.declared.script.Name.{Name}
use Rattle.term_tree.specs.declared.script.Pred.{Pred}
use Rattle.term_tree.specs.declared.definition.Definition.{Definition}
use Rattle.term_tree.specs.Arena.{Arena, IsArena}
use Rattle.lin_atoms.specs.declared.lit.Lit.{Lit}
use Rattle.cube_forms.specs.Cubes.{cube_is_below}
use Rattle.lemma_frames.specs.Frames.{IsInFrame, lemma_of}
use Rattle.lemma_frames.specs.declared.framed.Framed.{Framed}
use Rattle.answer_text.specs.Terms.{parameter_name}
use Rattle.interpretations.specs.Definitions.{AreDefinitionsOf, HavePlaces, IsDefinitionOf}
use Rattle.interpretations.specs.Kept.{AreKept}
use Rattle.interpretations.specs.Size.{IsTooLarge, term_size}
use Rattle.interpretations.specs.Terms.{IsDefiningTermOf}
use Rattle.interpretations.specs.machinery.Added.{IsAdded}
use Rattle.interpretations.proofs.AddedLemmas.{now}

pub definition-made : (lemmas : List Framed) (k number : ℕ) (pred : Pred) (sorts : List Sort) (params : List Name) (cubes : List (List Lit)) (old : List Node) (terms : Arena) (body : TermId)
    → sorts ≡ pred.args → map (λ name. name.bytes) params ≡ map (λ p. parameter_name p.0) (enumerate_from 0 sorts) → AreKept lemmas number k cubes → IsArena terms.nodes
    → IsAdded (λ nodes i. IsDefiningTermOf nodes sorts cubes i) (term_size cubes) old terms.nodes body
    → IsDefinitionOf lemmas k number pred (record { pred = number; params = params; terms = terms; body = body })
definition-made lemmas k number pred sorts params cubes old terms body same names kept arena added = record {
  pred_is = refl;
  names = names ∙ ap (λ (ss : List Sort). map (λ p. parameter_name p.0) (enumerate_from 0 ss)) same;
  arena = arena;
  cubes = cubes;
  kept = kept;
  term =
      subst (λ (ss : List Sort). IsDefiningTermOf terms.nodes ss cubes body) same
      (now (λ (nodes : List Node). IsDefiningTermOf nodes sorts cubes body) terms.nodes added.is);
}

pub definition-large : (lemmas : List Framed) (k number : ℕ) (cubes : List (List Lit)) (old : List Node) → old ≡ [] → AreKept lemmas number k cubes → 2 ^ 32 < length old + term_size cubes → IsTooLarge lemmas k
definition-large lemmas k number cubes old none kept large =
    record { pred = number; cubes = cubes; kept = kept; large = (let nothing : length old ≡ 0 = ap length none in omega (arith, nothing, large)) }

pub has-places : (preds : List Pred) (lemmas : List Framed) (k number : ℕ) (p : Pred) → HavePlaces preds lemmas → slice_get preds number ≡ Some p
    → (n : ℕ) → IsInFrame lemmas number k n → cube_is_below (length p.args) (lemma_of lemmas n) ≡ true
has-places preds lemmas k number p places there n inside = places n p inside.0 (ap (λ (i : ℕ). slice_get preds i) inside.1 ∙ there)

pub definitions-step : (lemmas : List Framed) (k i : ℕ) (preds : List Pred) (p : Pred) (old new : List Definition) (d : Definition) → i < length preds → p ≡ get_or preds i p → new ≡ old ++ d ∷ []
    → IsDefinitionOf lemmas k i p d → ((rest : List Definition) → AreDefinitionsOf lemmas k i (drop i preds) rest → AreDefinitionsOf lemmas k 0 preds (old ++ rest))
    → (rest : List Definition) → AreDefinitionsOf lemmas k (i + 1) (drop (i + 1) preds) rest → AreDefinitionsOf lemmas k 0 preds (new ++ rest)
definitions-step lemmas k i preds p old new d within is are made so-far rest later =
    let next : drop i preds ≡ p ∷ drop (i + 1) preds = drop_more preds i p within ∙ ap (λ (q : Pred). q ∷ drop (i + 1) preds) (sym is) in
    let all : AreDefinitionsOf lemmas k 0 preds (old ++ d ∷ rest) = so-far (d ∷ rest) (subst (λ (qs : List Pred). AreDefinitionsOf lemmas k i qs (d ∷ rest)) (sym next) (made, later)) in
    subst (λ (ds : List Definition). AreDefinitionsOf lemmas k 0 preds ds) (sym (ap (λ (ds : List Definition). ds ++ rest) are ∙ append_assoc old (d ∷ []) rest)) all

pub definitions-end : (lemmas : List Framed) (k i : ℕ) (preds : List Pred) (all : List Definition) → length preds ≤ i
    → ((rest : List Definition) → AreDefinitionsOf lemmas k i (drop i preds) rest → AreDefinitionsOf lemmas k 0 preds (all ++ rest)) → AreDefinitionsOf lemmas k 0 preds all
definitions-end lemmas k i preds all past so-far =
    subst (λ (ds : List Definition). AreDefinitionsOf lemmas k 0 preds ds) (append-nil all)
    (so-far [] (subst (λ (qs : List Pred). AreDefinitionsOf lemmas k i qs []) (sym (drop_all i preds past)) tt))
