-- The definitions of the predicates at a level: of each the lemmas of the level's frame.
use Rattle.std.specs.Prelude.{◌≡◌, ◌<◌, ℕ, ◌+◌, List, [], ◌∷◌, map, length, slice_get, Some, true}
use Rattle.std.specs.List.{enumerate_from}
use Rattle.term_tree.specs.declared.script.Pred.{Pred}
use Rattle.term_tree.specs.declared.definition.Definition.{Definition}
use Rattle.term_tree.specs.Arena.{IsArena}
use Rattle.lin_atoms.specs.declared.lit.Lit.{Lit}
use Rattle.cube_forms.specs.Cubes.{cube_is_below}
use Rattle.lemma_frames.specs.Frames.{lemma_of, pred_of}
use Rattle.lemma_frames.specs.declared.framed.Framed.{Framed}
use Rattle.answer_text.specs.Terms.{parameter_name}
use Rattle.interpretations.specs.Kept.{AreKept}
use Rattle.interpretations.specs.Terms.{IsDefiningTermOf}

-- the definition of the predicate of a number: its parameters are x0, x1 and so on, its term is that of the lemmas of F(k) on it
pub record IsDefinitionOf (lemmas : List Framed) (k number : ℕ) (pred : Pred) (d : Definition) : Type 0 where
  pub pred_is : d.pred ≡ number
  pub names : map (λ name. name.bytes) d.params ≡ map (λ p. parameter_name p.0) (enumerate_from 0 pred.args)
  pub arena : IsArena d.terms.nodes
  pub cubes : List (List Lit)
  pub kept : AreKept lemmas number k cubes
  pub term : IsDefiningTermOf d.terms.nodes pred.args cubes d.body

-- one for each predicate, in order, of which the first has this number
abbrev pub AreDefinitionsOf : List Framed → ℕ → ℕ → List Pred → List Definition → Type 0
AreDefinitionsOf lemmas k number [] [] = Unit {0}
AreDefinitionsOf lemmas k number (p ∷ preds) (d ∷ definitions) = IsDefinitionOf lemmas k number p d × AreDefinitionsOf lemmas k (number + 1) preds definitions
AreDefinitionsOf lemmas k number [] (d ∷ definitions) = ⊥
AreDefinitionsOf lemmas k number (p ∷ preds) [] = ⊥

-- each lemma names only places that its predicate has
abbrev pub HavePlaces : List Pred → List Framed → Type 0
HavePlaces preds lemmas = (n : ℕ) (p : Pred) → n < length lemmas → slice_get preds (pred_of lemmas n) ≡ Some p → cube_is_below (length p.args) (lemma_of lemmas n) ≡ true
