-- What an answer to the reading of a text tells.
use Rattle.std.specs.Prelude.{◌≡◌, ℕ, List, [], ◌∷◌, ◌++◌, map, Option, Result, Ok, Err, ◌⊎◌}
use Rattle.sexp_read.specs.declared.tree.Tree.{Tree}
use Rattle.sexp_read.specs.declared.tree.TextStop.{TextStop}
use Rattle.sexp_read.specs.Trees.{IsReading}
use Rattle.term_tree.specs.declared.script.Pred.{Pred}
use Rattle.term_tree.specs.declared.definition.Definition.{Definition}
use Rattle.term_tree.specs.Arena.{IsArena}
use Rattle.term_check.specs.Term.{IsTermAt}
use Rattle.answer_text.specs.declared.answer.Answer.{Answer}
use Rattle.answer_text.specs.declared.answer.Answer.TheVariants.{Sat, Unsat}
use Rattle.answer_text.specs.declared.stop.AnswerStop.{AnswerStop}
use Rattle.answer_text.specs.declared.stop.AnswerStop.TheVariants.{Memory as OutOfMemory, BadAnswer}
use Rattle.answer_text.specs.Reading.{Defined, Reply, reply}
use Rattle.answer_text.specs.Reading.Reply.{model, refutation}

-- exactly what was read, or exactly where the first fault is
abbrev pub Gives : {A : Type 0} → Result A ℕ → Result A AnswerStop → Type 0
Gives outcome (Ok a) = outcome ≡ Ok a
Gives outcome (Err OutOfMemory) = Unit {0}
Gives outcome (Err (BadAnswer offset)) = outcome ≡ Err offset

-- one more was added at the end, or exactly where the first fault is
abbrev pub Adds : {A : Type 0} → Result A ℕ → List A → List A → Result (Unit {0}) AnswerStop → Type 0
Adds {A} outcome old new (Ok done) = (a : A) × (outcome ≡ Ok a) × (new ≡ old ++ a ∷ [])
Adds outcome old new (Err OutOfMemory) = Unit {0}
Adds outcome old new (Err (BadAnswer offset)) = outcome ≡ Err offset

-- the definition has the parameters, and the term in an arena of its own: a node's number tells a term only where each stands after
-- its parts
pub record IsDefinition (d : Defined) (definition : Definition) : Type 0 where
  pub pred : definition.pred ≡ d.pred
  pub params : definition.params ≡ map (λ p. p.0) d.params
  pub arena : IsArena definition.terms.nodes
  pub term : IsTermAt definition.terms [] d.body definition.body.0

-- the definitions are those that were read, in the same order and as many
abbrev pub AreDefinitions : List Defined → List Definition → Type 0
AreDefinitions [] [] = Unit {0}
AreDefinitions (d ∷ ds) (definition ∷ definitions) = IsDefinition d definition × AreDefinitions ds definitions
AreDefinitions [] (definition ∷ definitions) = ⊥
AreDefinitions (d ∷ ds) [] = ⊥

-- the answer has the model's definitions or the derivation's steps that were read; unknown is never read
abbrev pub IsReply : Reply → Answer → Type 0
IsReply (model ds) (Sat definitions) = AreDefinitions ds definitions
IsReply (refutation lines) (Unsat steps) = steps ≡ lines
IsReply _ _ = ⊥

-- the text spells this answer over the predicates
pub record Spells (preds : List Pred) (text : List ℕ) (answer : Answer) : Type 0 where
  pub trees : List Tree
  pub stop : Option TextStop
  pub reading : IsReading text trees stop
  pub claimed : Reply
  pub spelled : reply text stop preds trees ≡ Ok claimed
  pub is : IsReply claimed answer

-- the text spells none, by its first fault
pub record IsBad (preds : List Pred) (text : List ℕ) (offset : ℕ) : Type 0 where
  pub trees : List Tree
  pub stop : Option TextStop
  pub reading : IsReading text trees stop
  pub broken : reply text stop preds trees ≡ Err offset

-- the text claims something over the predicates, or has a first fault
abbrev pub ClaimsOrIsBad : List Pred → List ℕ → Type 0
ClaimsOrIsBad preds text =
    ((claimed : Reply) × (trees : List Tree) × (stop : Option TextStop) × IsReading text trees stop × (reply text stop preds trees ≡ Ok claimed)) ⊎ ((offset : ℕ) × IsBad preds text offset)

abbrev pub TellsReply : Result Reply ℕ → Result Answer AnswerStop → Type 0
TellsReply outcome (Ok answer) = (r : Reply) × (outcome ≡ Ok r) × IsReply r answer
TellsReply outcome (Err OutOfMemory) = Unit {0}
TellsReply outcome (Err (BadAnswer offset)) = outcome ≡ Err offset

abbrev pub TellsDefinition : Result Defined ℕ → Result Definition AnswerStop → Type 0
TellsDefinition outcome (Ok definition) = (d : Defined) × (outcome ≡ Ok d) × IsDefinition d definition
TellsDefinition outcome (Err OutOfMemory) = Unit {0}
TellsDefinition outcome (Err (BadAnswer offset)) = outcome ≡ Err offset
