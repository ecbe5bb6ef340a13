-- What it takes that a printed answer is read back as itself, and what that means of a model.
use Rattle.std.specs.Prelude.{◌≡◌, ℕ, ◌<◌, List, [], ◌∷◌, length, Bool, false, true, not, ◌==◌, ◌||◌, Some, slice_get, codes}
use Rattle.std.specs.List.{AllByRecursion, list_all}
use Rattle.std.specs.Str.{bytes_eq}
use Rattle.base.specs.Widths.{long_limit}
use Rattle.term_tree.specs.declared.script.Pred.{Pred}
use Rattle.term_tree.specs.declared.definition.Definition.{Definition}
use Rattle.term_tree.specs.Arena.{IsArena}
use Rattle.term_tree.specs.Same.{is_same_tree}
use Rattle.term_check.specs.Spelling.{pred_from}
use Rattle.answer_text.specs.declared.answer.Answer.{Answer}
use Rattle.answer_text.specs.declared.answer.Answer.TheVariants.{Sat, Unsat, Unknown}
use Rattle.answer_text.specs.Read.{Spells, IsBad}

-- between bars stands any byte but a bar and a backslash (SMT-LIB 2.6, section 3.1)
abbrev pub is_quotable : List ℕ → Bool
is_quotable name = list_all (λ byte. not (byte == 124 || byte == 92)) name

-- as in every checked script: names are symbols of a text, they differ, and none is that of a truth value
pub record AreNames (preds : List Pred) : Type 0 where
  pub symbols : AllByRecursion (λ p. is_quotable p.name.bytes ≡ true) preds
  pub differ : (number : ℕ) (p : Pred) → slice_get preds number ≡ Some p → pred_from 0 p.name.bytes preds ≡ Some number
  pub free : AllByRecursion (λ p. bytes_eq p.name.bytes (codes "false") ≡ false) preds

-- as every value of the type: each node stands after its parts, and the parameters can be numbered
pub record IsStored (d : Definition) : Type 0 where
  pub arena : IsArena d.terms.nodes
  pub short : length d.params < long_limit

-- the same predicate and parameters, and terms that are equal as trees
pub record IsSameDefinition (d e : Definition) : Type 0 where
  pub pred : d.pred ≡ e.pred
  pub params : d.params ≡ e.params
  pub term : is_same_tree d.terms.nodes d.body.0 e.terms.nodes e.body.0 ≡ true

abbrev pub AreSameDefinitions : List Definition → List Definition → Type 0
AreSameDefinitions [] [] = Unit {0}
AreSameDefinitions (d ∷ ds) (e ∷ es) = IsSameDefinition d e × AreSameDefinitions ds es
AreSameDefinitions [] (e ∷ es) = ⊥
AreSameDefinitions (d ∷ ds) [] = ⊥

abbrev pub IsSameModel : List Definition → Answer → Type 0
IsSameModel ds (Sat es) = AreSameDefinitions ds es
IsSameModel ds (Unsat lines) = ⊥
IsSameModel ds (Unknown level cause) = ⊥

-- the text isn't refused, and whatever it spells is the same model
pub record IsReadAs (preds : List Pred) (text : List ℕ) (definitions : List Definition) : Type 0 where
  pub accepted : (offset : ℕ) → IsBad preds text offset → ⊥
  pub same : (answer : Answer) → Spells preds text answer → IsSameModel definitions answer
