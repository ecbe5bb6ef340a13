-- What a call of `solve` promises.
use Rattle.std.specs.Prelude.{◌≡◌, ℕ, ◌<◌, List, length, sum, take, IfSome, ◌≢◌, Some, None}
use Rattle.std.specs.declared.option.Option.{Option}
use Rattle.base.specs.Limits.{most_bytes}
use Rattle.outside_io.specs.Bytes.{Appends}
use Rattle.outside_io.specs.Counts.{counted}
use Rattle.term_tree.specs.declared.script.Script.{Script}
use Rattle.term_tree.specs.declared.refusal.Refusal.{Refusal}
use Rattle.term_tree.specs.declared.refusal.Kind.TheVariants.{TooLong}
use Rattle.sort_check.specs.Commands.{Command}
use Rattle.sort_check.specs.Scripts.{IsScript, IsScriptOf}
use Rattle.book_rules.specs.declared.end.End.{End as BookEnd}
use Rattle.book_rules.specs.Legal.{end}
use Rattle.book_rules.specs.Walks.{AllOf}
use Rattle.chc_core.specs.Contents.{Contents}
use Rattle.chc_core.specs.Views.{state_of}
use Rattle.shared_book.specs.Runs.{IsEntry}
use Rattle.worker_pool.specs.Counts.{counts_of}
use Rattle.book_answers.specs.Answers.{HasNoLowFalse, HasText, IsBookOf}
use Rattle.book_answers.specs.Wanting.{wanting_text}
use Rattle.answer_text.specs.Lines.{error_text}
use Rattle.call_words.specs.declared.limits.Limits.{Limits}
use Rattle.call_solve.specs.Clauses.{IsInputRefused}

-- a book over the clauses of the script that the bytes spell, which was given these units, in whose journal each entry is of one of
-- the workers and evidence that counts inner nodes counts limits.nodes of them, and no derivation of false is as low as its closed
-- level
pub record IsBookFor (limits : Limits) (bytes : List ℕ) (b : Contents) : Type 0 where
  pub commands : List Command
  pub script : Script
  pub is_script : IsScript bytes commands
  pub spelled : IsScriptOf commands script
  pub of : IsBookOf (record { script = script; stop = None }) b
  pub given : b.given ≡ limits.units
  pub entries : AllOf (IsEntry limits.workers limits.nodes) b.journal
  pub level : HasNoLowFalse script b.level

-- how many of its entries each worker wrote
pub record AreCounts (limits : Limits) (b : Contents) (counts : List ℕ) : Type 0 where
  pub by : counts ≡ counts_of limits.workers b.journal
  pub each : length counts ≡ limits.workers
  pub all : sum counts ≡ length b.journal

-- such a book that has ended, and its answer: a derivation at an unsat end, definitions at a sat end, else the closed level and
-- the cause
pub record IsAnswered (limits : Limits) (bytes : List ℕ) (b : Contents) (text : List ℕ) : Type 0 where
  pub book : IsBookFor limits bytes b
  pub ended_by : BookEnd
  pub ended : end (state_of b) ≡ Some ended_by
  pub answer : HasText book.script b ended_by text

-- The refusal is that of the bytes left in the source: of those that were read, where the source's count of ends rose, and
-- that they are too many, where it didn't.
pub record RefusesInput (left : Option (List ℕ)) (old new : ℕ) (read : List ℕ) (refusal : Refusal) : Type 0 where
  pub input : IfSome left (λ bytes. IsInputRefused bytes refusal)
  pub ended : new ≢ old → IsInputRefused read refusal
  pub long : new ≢ counted old → refusal ≡ record { kind = TooLong; offset = most_bytes; command = 0 }
  pub bytes : refusal.kind ≢ TooLong → IsInputRefused read refusal

-- the text that the call was to write: its kinds are told apart by the status that it was to end with
pub data IsMeant (limits : Limits) (left : Option (List ℕ)) (old new : ℕ) (read : List ℕ) (book : Option Contents) (text : List ℕ) : Type 0 where
  answer : (b : Contents) → book ≡ Some b → IsAnswered limits read b text → IfSome left (λ bytes. read ≡ bytes) → IsMeant limits left old new read book text
  error : (refusal : Refusal) → RefusesInput left old new read refusal → text ≡ error_text refusal → IsMeant limits left old new read book text
  memory : text ≡ wanting_text book → IsMeant limits left old new read book text

-- the sink has failed: a prefix of the text that was meant is held, and not all of it
pub record WritesPart (limits : Limits) (left : Option (List ℕ)) (ends after : ℕ) (read : List ℕ) (book : Option Contents) (old new : Option (List ℕ)) : Type 0 where
  pub text : List ℕ
  pub meant : IsMeant limits left ends after read book text
  pub count : ℕ
  pub part : count < length text
  pub held : Appends (take count text) old new

-- the script is answered: the sink holds the answer of the book's end behind what it held
pub record Answers (limits : Limits) (read : List ℕ) (book : Option Contents) (old new : Option (List ℕ)) : Type 0 where
  pub b : Contents
  pub book_is : book ≡ Some b
  pub text : List ℕ
  pub answer : IsAnswered limits read b text
  pub held : Appends text old new

-- the script is refused: it holds the line of the refusal
pub record Refuses (left : Option (List ℕ)) (ends after : ℕ) (read : List ℕ) (refusal : Refusal) (old new : Option (List ℕ)) : Type 0 where
  pub refused : RefusesInput left ends after read refusal
  pub held : Appends (error_text refusal) old new
