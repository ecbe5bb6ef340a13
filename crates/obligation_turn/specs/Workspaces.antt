-- What turns after one another keep: nothing of it has to be believed but that its instances are the system's.
use Rattle.std.specs.Prelude.{◌≡◌, ℕ, Option, true, Some, None}
use Rattle.clause_form.specs.System.{Clauses}
use Rattle.lemma_frames.specs.Frames.{lemma_of, level_of, pred_of}
use Rattle.chc_tokens.specs.Tokens.{is_seen}
use Rattle.chc_tokens.specs.declared.goal.Goal.TheVariants.{Holds}
use Rattle.chc_tokens.specs.declared.seeing.Seen.{Seen}
use Rattle.book_rules.specs.Walks.{AllOf}
use Rattle.clause_queries.specs.Answers.{IsFound, IsHit}
use Rattle.clause_queries.specs.declared.finding.Found.{Found}
use Rattle.step_rules.specs.Standing.{Standing}
use Rattle.obligation_turn.specs.declared.workspace.Workspace.{Workspace}

-- the instance that is kept for a lemma, if one is
abbrev pub IsSeenOf : Clauses → Option Seen → Type 0
IsSeenOf sys None = Unit {0}
IsSeenOf sys (Some seen) = is_seen sys seen ≡ true

abbrev pub IsWorkspaceFor : Clauses → Workspace → Type 0
IsWorkspaceFor sys work = AllOf (IsSeenOf sys) (work.kept).items

-- what is found of the lemma of a number, under F of its level
abbrev pub IsFoundOf : Standing → ℕ → ℕ → Found → Type 0
IsFoundOf b nodes id found = IsFound b.system b.frames.lemmas (Some (pred_of b.frames.lemmas id)) (Holds (lemma_of b.frames.lemmas id)) (level_of b.frames.lemmas id) nodes found

abbrev pub IsHitOf : Standing → ℕ → Seen → Type 0
IsHitOf b id seen = IsHit b.system b.frames.lemmas (Some (pred_of b.frames.lemmas id)) (Holds (lemma_of b.frames.lemmas id)) (level_of b.frames.lemmas id) seen
