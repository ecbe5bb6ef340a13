-- Thin cubes of a book, as it opens and over a step.
use Rattle.std.proofs.Common.{◌≡◌, ℕ, List, [], ◌∷◌, map, false, refl, sym, subst}
use Rattle.clause_form.specs.System.{Clauses}
use Rattle.book_rules.specs.Areas.{is_wide}
use Rattle.book_rules.specs.Effects.{after}
use Rattle.book_rules.specs.Frames.{Framed}
use Rattle.book_rules.specs.State.{Obligation, State, opening}
use Rattle.book_rules.specs.Walks.{AllOf}
use Rattle.book_rules.proofs.StepLemmas.{ChildHas, LemmaHas, lemmas-after, steady-after}
use Rattle.step_rules.specs.Taken.{step_of}
use Rattle.step_rules.specs.Views.{framed_of, obligation_of}
use Rattle.step_rules.specs.declared.step.Step.{Step}
use Rattle.step_rules.specs.declared.step.Step.TheVariants.{OpenStep, LemmaStep, FactStep, LiftStep, RaiseStep, StallStep, DeriveStep, StrengthenStep}
use Rattle.chc_core.specs.Contents.{Contents}
use Rattle.chc_core.specs.Views.{standing_of, state_of}
use Rattle.obligation_turn.specs.Turns.{IsThin, StepIsThin}

all_map : {X Y : Type 0} (P : Y → Type 0) (f : X → Y) (xs : List X) → AllOf (λ x. P (f x)) xs → AllOf P (map f xs)
all_map P f [] h = tt
all_map P f (x ∷ xs) h = (h.0, all_map P f xs h.1)

all_unmap : {X Y : Type 0} (P : Y → Type 0) (f : X → Y) (xs : List X) → AllOf P (map f xs) → AllOf (λ x. P (f x)) xs
all_unmap P f [] h = tt
all_unmap P f (x ∷ xs) h = (h.0, all_unmap P f xs h.1)

abbrev ThinLemma : Framed → Type 0
ThinLemma e = is_wide e.lemma.cube ≡ false

abbrev ThinObligation : Obligation → Type 0
ThinObligation o = is_wide o.cube ≡ false

record IsThinState (s : State) : Type 0 where
  lemmas : AllOf ThinLemma s.lemmas
  obligations : AllOf ThinObligation s.obligations

thin_state : (b : Contents) → IsThin (standing_of b) → IsThinState (state_of b)
thin_state b h = record { lemmas = all_map ThinLemma framed_of b.frames.lemmas h.lemmas; obligations = all_map ThinObligation obligation_of b.tree.nodes h.obligations }

state_thin : (b : Contents) → IsThinState (state_of b) → IsThin (standing_of b)
state_thin b h = record { lemmas = all_unmap ThinLemma framed_of b.frames.lemmas h.lemmas; obligations = all_unmap ThinObligation obligation_of b.tree.nodes h.obligations }

lemma_new : (step : Step) → StepIsThin step → LemmaHas ThinLemma (step_of step)
lemma_new (OpenStep o) h = tt
lemma_new (LemmaStep l) h = h
lemma_new (FactStep f) h = tt
lemma_new (LiftStep l) h = tt
lemma_new (RaiseStep r) h = tt
lemma_new (StallStep t) h = tt
lemma_new (DeriveStep f) h = tt
lemma_new (StrengthenStep l) h = h

child_new : (sys : Clauses) (s : State) (step : Step) → StepIsThin step → ChildHas ThinObligation sys s (step_of step)
child_new sys s (OpenStep o) h = λ parent atom there is. h
child_new sys s (LemmaStep l) h = tt
child_new sys s (FactStep f) h = tt
child_new sys s (LiftStep l) h = tt
child_new sys s (RaiseStep r) h = tt
child_new sys s (StallStep t) h = tt
child_new sys s (DeriveStep f) h = tt
child_new sys s (StrengthenStep l) h = tt

thin_step : (sys : Clauses) (s : State) (step : Step) → IsThinState s → StepIsThin step → IsThinState (after sys s (step_of step))
thin_step sys s step h new = record {
  lemmas = lemmas-after ThinLemma (λ e level k. k) sys s (step_of step) h.lemmas (lemma_new step new);
  obligations = steady-after ThinObligation (λ o level closed stalled k. k) sys s (step_of step) h.obligations (child_new sys s step new);
}

pub thin-after : (b c : Contents) (step : Step) → state_of c ≡ after b.system (state_of b) (step_of step) → IsThin (standing_of b) → StepIsThin step → IsThin (standing_of c)
thin-after b c step is h new = state_thin c (subst IsThinState (sym is) (thin_step b.system (state_of b) step (thin_state b h) new))

pub thin-opening : (b : Contents) (units : ℕ) → state_of b ≡ opening units → IsThin (standing_of b)
thin-opening b units is = state_thin b (subst IsThinState (sym is) (record { lemmas = tt; obligations = (refl, tt) }))
