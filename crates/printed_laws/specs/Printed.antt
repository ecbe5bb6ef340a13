-- What a text that a call of `solve` prints under status 0 says, for whoever has the bytes that were read and that text alone.
use Rattle.std.specs.Prelude.{◌≡◌, ℕ, List, ◌++◌, codes}
use Rattle.term_tree.specs.declared.script.Script.{Script}
use Rattle.term_tree.specs.Solution.{IsSolution}
use Rattle.sort_check.specs.Commands.{Command}
use Rattle.sort_check.specs.Scripts.{IsScript, IsScriptOf}
use Rattle.cert_derivations.specs.Claims.{DeriveFalse}
use Rattle.answer_text.specs.declared.answer.Line.{Line}
use Rattle.answer_text.specs.declared.answer.Answer.{Answer}
use Rattle.answer_text.specs.declared.answer.Answer.TheVariants.{Sat, Unsat, Unknown}
use Rattle.answer_text.specs.declared.answer.UnknownCause.{UnknownCause}
use Rattle.answer_text.specs.Lines.{level_text}
use Rattle.answer_text.specs.Read.{IsBad, Spells}
use Rattle.book_answers.specs.Answers.{HasNoLowFalse}

-- the answer is definitions that are a solution of the script
abbrev pub IsSolvedBy : Script → Answer → Type 0
IsSolvedBy script (Sat definitions) = IsSolution script definitions
IsSolvedBy script (Unsat lines) = ⊥
IsSolvedBy script (Unknown level cause) = ⊥

-- no reader of answers refuses the text, and whatever it is read as solves the script
pub record IsSolutionText (script : Script) (text : List ℕ) : Type 0 where
  pub accepted : (offset : ℕ) → IsBad script.preds text offset → ⊥
  pub solved : (answer : Answer) → Spells script.preds text answer → IsSolvedBy script answer

-- no reader of answers refuses the text, and it is read as these lines and nothing else, which derive false by the script's assertions
pub record IsDerivationText (script : Script) (text : List ℕ) : Type 0 where
  pub lines : List Line
  pub accepted : (offset : ℕ) → IsBad script.preds text offset → ⊥
  pub spells : Spells script.preds text (Unsat lines)
  pub alone : (answer : Answer) → Spells script.preds text answer → answer ≡ Unsat lines
  pub derive : DeriveFalse script lines

-- the text tells a level and a cause, and no derivation of false by the script's clauses is as low
pub record IsLevelText (script : Script) (text : List ℕ) : Type 0 where
  pub level : ℕ
  pub cause : UnknownCause
  pub is : text ≡ codes "unknown\n" ++ level_text level cause
  pub low : HasNoLowFalse script level

-- the first line tells which
pub data Says (script : Script) (text : List ℕ) : Type 0 where
  sat : (rest : List ℕ) → text ≡ codes "sat\n" ++ rest → IsSolutionText script text → Says script text
  unsat : (rest : List ℕ) → text ≡ codes "unsat\n" ++ rest → IsDerivationText script text → Says script text
  unknown : IsLevelText script text → Says script text

-- of each script that the bytes spell, and there is one: it is one but for how its terms are numbered
pub record IsPrinted (bytes : List ℕ) (text : List ℕ) : Type 0 where
  pub commands : List Command
  pub script : Script
  pub is_script : IsScript bytes commands
  pub spelled : IsScriptOf commands script
  pub says : (others : List Command) (other : Script) → IsScript bytes others → IsScriptOf others other → Says other text
