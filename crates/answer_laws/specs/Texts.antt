-- The printed answers to a script.
use Rattle.std.specs.Prelude.{ℕ, List}
use Rattle.term_tree.specs.declared.script.Script.{Script}
use Rattle.term_tree.specs.declared.definition.Definition.{Definition}
use Rattle.term_tree.specs.Solution.{IsSolution}
use Rattle.sort_check.specs.Commands.{Command}
use Rattle.sort_check.specs.Scripts.{IsScript, IsScriptOf}
use Rattle.answer_text.specs.declared.answer.Answer.TheVariants.{Sat}
use Rattle.answer_text.specs.Printable.{IsAnswerText}

-- the bytes are a script, and the text is the printed form of definitions under which every assertion is true
pub record IsSatAnswer (bytes : List ℕ) (text : List ℕ) : Type 0 where
  pub commands : List Command
  pub script : Script
  pub definitions : List Definition
  pub is_script : IsScript bytes commands
  pub spelled : IsScriptOf commands script
  pub solution : IsSolution script definitions
  pub answer : IsAnswerText script.preds (Sat definitions) text
