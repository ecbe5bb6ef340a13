-- What is asked for an obligation, and what is answered.
use Rattle.std.specs.Prelude.{◌-◌, ℕ, List}
use Rattle.chc_tokens.specs.declared.refuting.Shown.{Shown}
use Rattle.chc_tokens.specs.declared.seeing.Seen.{Seen}
use Rattle.clause_queries.specs.Answers.{AreProofs, IsHit}
use Rattle.step_rules.specs.Standing.{Standing}
pub use Rattle.obligation_turn.specs.Turns.{goal_by, goal_for, job_of}

abbrev pub IsJobHit : Standing → ℕ → Seen → Type 0
IsJobHit b job seen = IsHit b.system b.frames.lemmas (job_of b job).pred (goal_for (job_of b job)) ((job_of b job).level - 1) seen

abbrev pub AreJobProofs : Standing → ℕ → List Shown → Type 0
AreJobProofs b job proofs = AreProofs b.system b.frames.lemmas (job_of b job).pred (goal_for (job_of b job)) ((job_of b job).level - 1) proofs
