-- What keeps lemmas where they are.
use Rattle.std.specs.Prelude.{◌≡◌, [], ◌∷◌, ◌+◌, take, ℕ, List, Option, true, Some, None}
use Rattle.std.specs.List.{list_all}
use Rattle.clause_form.specs.System.{Clauses}
use Rattle.lemma_frames.specs.Frames.{lemma_of, level_of, pred_of}
use Rattle.chc_tokens.specs.Kept.{kept_why}
use Rattle.chc_tokens.specs.Tokens.{IsNoLift}
use Rattle.chc_tokens.specs.declared.goal.Goal.TheVariants.{Holds}
use Rattle.chc_tokens.specs.declared.keeping.NoLift.{NoLift}
use Rattle.chc_tokens.specs.declared.refuting.Shown.{Shown}
use Rattle.book_rules.specs.Frames.{Framed}
use Rattle.book_rules.specs.Places.{no_lift_has_places}
use Rattle.book_rules.specs.RaiseRules.{below_from, evidence_outside, is_no_lift_of, seen_outside}
use Rattle.book_rules.specs.Rules.{broken}
use Rattle.book_rules.specs.State.{State}
use Rattle.book_rules.specs.Steps.{NoLift as PlainNoLift}
use Rattle.book_rules.specs.Walks.{AllOf}
use Rattle.clause_queries.specs.Answers.{AreProofs}
use Rattle.step_rules.specs.Standing.{Standing, standing_state}
use Rattle.step_rules.specs.Taken.{IsMadeFor, step_of}
use Rattle.step_rules.specs.Tokens.{all_no_lifts, no_lift_of}
use Rattle.step_rules.specs.Views.{framed_at, lemmas_of}
use Rattle.step_rules.specs.declared.lift_step.part.LiftPart.{LiftPart}
use Rattle.step_rules.specs.declared.step.Step.TheVariants.{LiftStep}
use Rattle.book_rules.specs.Places.{has_places}
use Rattle.obligation_turn.specs.Turns.{AreSought, IsWhySought, WhyCounts}
pub use Rattle.obligation_turn.specs.Turns.{IsLostOf}
pub use Rattle.obligation_turn.specs.Workspaces.{IsFoundOf, IsHitOf}
use Rattle.obligation_turn.specs.declared.root_steps.Lifted.{Lifted}
use Rattle.obligation_turn.specs.declared.root_steps.Lifted.TheVariants.{Lift, Kept}

abbrev pub AreProofsOf : Standing → ℕ → List Shown → Type 0
AreProofsOf b id proofs = AreProofs b.system b.frames.lemmas (Some (pred_of b.frames.lemmas id)) (Holds (lemma_of b.frames.lemmas id)) (level_of b.frames.lemmas id) proofs

-- a lemma and what keeps it, as the rules of a Raise want them: of the lemma, through a clause of its head, with the body in F of its level
pub record IsPair (sys : Clauses) (s : State) (e : ℕ × Framed) (k : PlainNoLift) : Type 0 where
  pub of_lemma : is_no_lift_of sys (e.1).lemma k ≡ true
  pub inside : seen_outside sys s e k.why ≡ None
  pub known : evidence_outside sys s e k.why ≡ None

-- each lemma with what keeps it, in order
abbrev pub ArePairs : Clauses → State → List (ℕ × Framed) → List PlainNoLift → Type 0
ArePairs sys s [] [] = Unit {0}
ArePairs sys s [] (k ∷ ks) = ⊥
ArePairs sys s (e ∷ es) [] = ⊥
ArePairs sys s (e ∷ es) (k ∷ ks) = IsPair sys s e k × ArePairs sys s es ks

-- what was found that keeps the lemma of a number where it is
pub record IsKeptAt (b : Standing) (nodes id : ℕ) (kept : NoLift) : Type 0 where
  pub no_lift : IsNoLift b.system kept
  pub pair : IsPair b.system (standing_state b) (id, framed_at b.frames.lemmas id) (no_lift_of kept)
  pub places : no_lift_has_places b.system (no_lift_of kept) ≡ true
  pub counts : WhyCounts nodes (kept_why kept)
  pub sought : IsWhySought b nodes id (kept_why kept)

-- what was found of the lemmas below this number
pub record AreKept (b : Standing) (nodes n : ℕ) (kept : List NoLift) : Type 0 where
  pub no_lifts : AllOf (IsNoLift b.system) kept
  pub pairs : ArePairs b.system (standing_state b) (below_from b.level 0 (take n (lemmas_of b.frames.lemmas))) (all_no_lifts kept)
  pub places : list_all (no_lift_has_places b.system) (all_no_lifts kept) ≡ true
  pub counts : AllOf (λ k. WhyCounts nodes (kept_why k)) kept
  pub sought : AreSought b nodes (below_from b.level 0 (take n (lemmas_of b.frames.lemmas))) kept

-- a Lift that breaks no rule
pub record IsLegalLift (b : Standing) (part : LiftPart) : Type 0 where
  pub unbroken : broken b.system (standing_state b) (step_of (LiftStep part)) ≡ None
  pub made : IsMadeFor b.system (LiftStep part)
  pub places : has_places b.system (step_of (LiftStep part)) ≡ true

abbrev pub IsLifted : Standing → ℕ → ℕ → Lifted → Type 0
IsLifted b nodes id (Lift part) = IsLegalLift b part
IsLifted b nodes id (Kept kept) = IsKeptAt b nodes id kept

-- a lift of the lemma of a number, or what is found of the lemmas up to it
abbrev pub IsNext : Standing → ℕ → ℕ → List NoLift → Option LiftPart → Type 0
IsNext b nodes id kept None = AreKept b nodes (id + 1) kept
IsNext b nodes id kept (Some part) = IsLegalLift b part
