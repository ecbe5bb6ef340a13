-- Predicates by name, and the places of the definitions that were read, one for each predicate.
use Rattle.std.specs.Map.{lookup}
use Rattle.std.specs.Str.{bytes_eq}
use Rattle.keyed_hash.specs.declared.name.NameKey.{NameKey}
use Rattle.std.specs.Prelude.{◌≡◌, ℕ, List, [], ◌∷◌, ◌++◌, length, Option, None, Some, Result, Ok, Err, slice_get}
use Rattle.term_tree.specs.declared.script.Pred.{Pred}
use Rattle.term_tree.specs.declared.definition.Definition.{Definition}
use Rattle.answer_text.specs.declared.stop.AnswerStop.{AnswerStop}
use Rattle.answer_text.specs.declared.stop.AnswerStop.TheVariants.{Memory as OutOfMemory, BadAnswer}
use Rattle.sexp_read.specs.declared.tree.Tree.{Tree}
use Rattle.term_check.specs.Spelling.{pred_from}
use Rattle.answer_text.specs.Reading.{Defined, definition_for, definitions_from}
use Rattle.answer_text.specs.Read.{IsDefinition}

-- each name has the number of the first predicate of that name, where the first of these has this number
abbrev pub AreNumbers : ℕ → List Pred → List (NameKey × ℕ) → Type 0
AreNumbers first preds entries = (name : List ℕ) → lookup (λ key. bytes_eq name key.bytes.now) entries ≡ pred_from first name preds

pub record AreEmpty (count : ℕ) (places : List (Option Definition)) : Type 0 where
  pub count_is : length places ≡ count
  pub empty : (number : ℕ) (place : Option Definition) → slice_get places number ≡ Some place → place ≡ None

abbrev pub IsPlace : Option Defined → Option Definition → Type 0
IsPlace None None = Unit {0}
IsPlace (Some d) (Some definition) = IsDefinition d definition
IsPlace None (Some definition) = ⊥
IsPlace (Some d) None = ⊥

-- each predicate's definition among these is in its place
pub record ArePlaces (ds : List Defined) (preds : List Pred) (places : List (Option Definition)) : Type 0 where
  pub count_is : length places ≡ length preds
  pub each : (number : ℕ) (place : Option Definition) → slice_get places number ≡ Some place → IsPlace (definition_for number ds) place

-- one more was put into its place, or is wrong
abbrev pub Took : List Defined → List Pred → Result Defined ℕ → List (Option Definition) → Result (Unit {0}) AnswerStop → Type 0
Took before preds outcome places (Ok done) = (d : Defined) × (outcome ≡ Ok d) × ArePlaces (before ++ d ∷ []) preds places
Took before preds outcome places (Err OutOfMemory) = Unit {0}
Took before preds outcome places (Err (BadAnswer offset)) = outcome ≡ Err offset

abbrev pub TookAll : List Pred → Result (List Defined) ℕ → List (Option Definition) → Result (Unit {0}) AnswerStop → Type 0
TookAll preds outcome places (Ok done) = (ds : List Defined) × (outcome ≡ Ok ds) × ArePlaces ds preds places
TookAll preds outcome places (Err OutOfMemory) = Unit {0}
TookAll preds outcome places (Err (BadAnswer offset)) = outcome ≡ Err offset

abbrev pub with_definition : Definition → Option (List Definition) → Option (List Definition)
with_definition definition None = None
with_definition definition (Some definitions) = Some (definition ∷ definitions)

-- the definitions in their places, unless one is missing
abbrev pub gathered : List (Option Definition) → Option (List Definition)
gathered [] = Some []
gathered (None ∷ places) = None
gathered (Some definition ∷ places) = with_definition definition (gathered places)

-- the definitions so far are in their places, and the trees that are left decide
pub record IsSoFar (text : List ℕ) (preds : List Pred) (rest trees : List Tree) (places : List (Option Definition)) : Type 0 where
  pub before : List Defined
  pub places_are : ArePlaces before preds places
  pub outcome_is : definitions_from text preds before rest ≡ definitions_from text preds [] trees
