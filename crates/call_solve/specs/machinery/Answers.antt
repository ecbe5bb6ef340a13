-- What is to be written for an input.
use Rattle.std.specs.Prelude.{◌≡◌, ℕ, List, Some, Err}
use Rattle.term_tree.specs.declared.refusal.Checked.{Checked}
use Rattle.clause_normal.specs.Reading.{system_reading}
use Rattle.book_rules.specs.declared.end.End.{End}
use Rattle.book_rules.specs.Legal.{end}
use Rattle.book_rules.specs.Walks.{AllOf}
use Rattle.chc_core.specs.Contents.{Contents}
use Rattle.chc_core.specs.Views.{state_of}
use Rattle.shared_book.specs.Runs.{IsEntry}
use Rattle.book_answers.specs.Answers.{HasNoLowFalse, HasText, IsBookOf}
use Rattle.call_solve.specs.Clauses.{IsInputRefused}
use Rattle.call_solve.specs.declared.answer.Answer.{Answer}
use Rattle.call_solve.specs.declared.answer.Answer.TheVariants.{Answered, Refused, Unfinished}
use Rattle.call_solve.specs.Headline.{AreCounts, IsAnswered, IsBookFor}
use Rattle.answer_text.specs.Lines.{error_text}
use Rattle.call_words.specs.declared.limits.Limits.{Limits}

-- the line of the refusal, the answer of a book that has ended, or a book without an answer for want of memory, with the entries of
-- each worker counted
abbrev pub IsAnswerTo : Limits → List ℕ → Answer → Type 0
IsAnswerTo limits bytes (Refused refusal line) = IsInputRefused bytes refusal × (line.items ≡ error_text refusal)
IsAnswerTo limits bytes (Answered book counts text) = IsAnswered limits bytes book text.items × AreCounts limits book counts.items
IsAnswerTo limits bytes (Unfinished book counts) = IsBookFor limits bytes book × AreCounts limits book counts.items

-- a book over the clauses of a checked script that was searched within the limits, with the entries of each worker counted
pub record IsSearchedBook (limits : Limits) (checked : Checked) (b : Contents) (counts : List ℕ) : Type 0 where
  pub of : IsBookOf checked b
  pub given : b.given ≡ limits.units
  pub entries : AllOf (IsEntry limits.workers limits.nodes) b.journal
  pub level : HasNoLowFalse checked.script b.level
  pub counted : AreCounts limits b counts

-- and what is to be written for it
abbrev pub IsSearched : Limits → Checked → Answer → Type 0
IsSearched limits checked (Refused refusal line) = ⊥
IsSearched limits checked (Answered book counts text) =
    IsSearchedBook limits checked book counts.items × (e : End) × (end (state_of book) ≡ Some e) × HasText checked.script book e text.items
IsSearched limits checked (Unfinished book counts) = IsSearchedBook limits checked book counts.items

-- of a checked script: its refusal, or what a search of its book comes to
abbrev pub IsToldOf : Limits → Checked → Answer → Type 0
IsToldOf limits checked (Refused refusal line) = (system_reading checked ≡ Err refusal) × (line.items ≡ error_text refusal)
IsToldOf limits checked (Answered book counts text) = IsSearched limits checked (Answered book counts text)
IsToldOf limits checked (Unfinished book counts) = IsSearchedBook limits checked book counts.items
