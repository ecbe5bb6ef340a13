-- What one worker's run over a book writes into the journal.
use Rattle.std.specs.Prelude.{◌≡◌, ℕ}
use Rattle.chc_core.specs.declared.entry.Entry.{Entry}
use Rattle.obligation_turn.specs.Counts.{StepCounts}

-- an entry of worker 1, in which evidence that counts inner nodes counts the given number of them
pub record IsOwn (nodes : ℕ) (entry : Entry) : Type 0 where
  pub worker : entry.worker ≡ 1
  pub counts : StepCounts nodes entry.step
