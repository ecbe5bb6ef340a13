-- Which lemmas a pass lifts after a step, and which of them is next (Hoder and Bjorner, "Generalized property directed reachability",
-- section 3: lemmas are propagated from frame to frame).
use Rattle.std.specs.Prelude.{◌≡◌, ◌<◌, ◌≤◌, ℕ, Option, Some, None, length}
use Rattle.lemma_frames.specs.Frames.{lemma_of, level_of, pred_of}
use Rattle.step_rules.specs.Standing.{Standing}
use Rattle.step_rules.specs.declared.step.Step.{Step}
use Rattle.step_rules.specs.declared.step.Step.TheVariants.{OpenStep, LemmaStep, FactStep, LiftStep, RaiseStep, StallStep, DeriveStep, StrengthenStep}
use Rattle.lemma_general.specs.Generals.{IsAgainst, IsLiftOf}
use Rattle.search_strategy.specs.declared.lifts.Pass.{Pass}

-- a lemma that may be lifted: of at least this level, and below the book's
pub record MayLift (b : Standing) (from id : ℕ) : Type 0 where
  pub least : from ≤ level_of b.frames.lemmas id
  pub below : level_of b.frames.lemmas id < b.level

-- such a lemma from the pass's next one on
pub record IsInPass (b : Standing) (pass : Pass) (id : ℕ) : Type 0 where
  pub from : pass.next ≤ id
  pub there : id < length b.frames.lemmas
  pub may : MayLift b pass.least id

-- something stands against a lemma under the frame of its level
abbrev pub Stays : Standing → ℕ → ℕ → Type 0
Stays b nodes id = IsAgainst b (pred_of b.frames.lemmas id) (level_of b.frames.lemmas id) nodes (lemma_of b.frames.lemmas id)

-- a Lift of the lemma of a number
abbrev pub Lifts : Standing → ℕ → Step → Type 0
Lifts b id (OpenStep o) = ⊥
Lifts b id (LemmaStep l) = ⊥
Lifts b id (FactStep f) = ⊥
Lifts b id (LiftStep l) = IsLiftOf b id l
Lifts b id (RaiseStep r) = ⊥
Lifts b id (StallStep t) = ⊥
Lifts b id (DeriveStep f) = ⊥
Lifts b id (StrengthenStep l) = ⊥

-- the first lemma of the pass that goes up, by its Lift
pub record IsFirstLift (b : Standing) (nodes : ℕ) (pass : Pass) (id : ℕ) (step : Step) : Type 0 where
  pub in_pass : IsInPass b pass id
  pub lift : Lifts b id step
  pub first : (m : ℕ) → m < id → IsInPass b pass m → Stays b nodes m

-- none of the pass goes up
abbrev pub AllStay : Standing → ℕ → Pass → Type 0
AllStay b nodes pass = (m : ℕ) → IsInPass b pass m → Stays b nodes m

-- the next Lift of a pass, which stays at the lemma that it lifts; a pass in which no lemma goes up is over
abbrev pub IsNextLift : Standing → ℕ → Option Pass → Option Pass → Option Step → Type 0
IsNextLift b nodes None new (Some step) = ⊥
IsNextLift b nodes None new None = new ≡ None
IsNextLift b nodes (Some pass) None (Some step) = ⊥
IsNextLift b nodes (Some pass) (Some new) (Some step) = IsFirstLift b nodes pass new.next step × (new.least ≡ pass.least)
IsNextLift b nodes (Some pass) (Some new) None = ⊥
IsNextLift b nodes (Some pass) None None = AllStay b nodes pass
