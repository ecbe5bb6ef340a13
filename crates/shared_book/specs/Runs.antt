-- What is true of a run's book at every moment, whichever of its workers have written in it.
use Rattle.std.specs.Prelude.{◌≡◌, ◌<◌, ◌≤◌, ℕ}
use Rattle.clause_form.specs.System.{Clauses}
use Rattle.book_rules.specs.Walks.{AllOf}
use Rattle.chc_core.specs.Contents.{Contents}
use Rattle.chc_core.specs.Views.{standing_of}
use Rattle.chc_core.specs.declared.entry.Entry.{Entry}
use Rattle.clause_queries.specs.Answers.{AreFew}
use Rattle.obligation_turn.specs.Counts.{StepCounts}
use Rattle.obligation_turn.specs.Turns.{IsThin}
use Rattle.step_rules.specs.declared.lemma_step.part.LemmaPart.{LemmaPart}
use Rattle.search_strategy.specs.Older.{IsOlder}

-- an entry of one of the workers, who are numbered from 1; evidence that counts inner nodes counts those that the run allows
pub record IsEntry (workers nodes : ℕ) (entry : Entry) : Type 0 where
  pub first : 0 < entry.worker
  pub last : entry.worker ≤ workers
  pub counts : StepCounts nodes entry.step

-- the book that the clauses open with the given number of units, in which workers of the run alone have written; its cubes are thin
pub record IsRunBook (sys : Clauses) (units nodes workers : ℕ) (b : Contents) : Type 0 where
  pub system : b.system ≡ sys
  pub given : b.given ≡ units
  pub few : AreFew sys
  pub entries : AllOf (IsEntry workers nodes) b.journal
  pub thin : IsThin (standing_of b)

-- the number and the level of an older lemma in some book of the run
abbrev pub IsOlderInRun : Clauses → ℕ → ℕ → ℕ → LemmaPart → ℕ → ℕ → Type 0
IsOlderInRun sys units nodes workers part id level = ∥ ((b : Contents) × IsRunBook sys units nodes workers b × IsOlder b.frames.lemmas part id level) ∥₁
