-- A book with the versions put in place that a step made.
use Rattle.std.specs.Prelude.{◌≡◌, ◌<◌, ℕ, List, [], ◌∷◌, ◌++◌, Option, Some, None}
use Rattle.book_rules.specs.Effects.{after}
use Rattle.book_rules.specs.FactRules.{if_recorded, unless_body}
use Rattle.book_rules.specs.Legal.{end}
use Rattle.book_rules.specs.Rules.{broken}
use Rattle.book_rules.specs.State.{State}
use Rattle.book_rules.specs.Steps.{Seen}
use Rattle.chc_core.specs.Contents.{Contents}
use Rattle.chc_core.specs.declared.entry.Entry.{Entry}
use Rattle.step_rules.specs.Taken.{step_of}
use Rattle.chc_core.specs.Views.{state_of}
use Rattle.chc_core.specs.declared.made.Made.{Made}
use Rattle.step_rules.specs.declared.step.Step.{Step}
use Rattle.chc_core.specs.machinery.Books.{IsBook}
use Rattle.step_rules.specs.Falsity.{IsLastFalse}

-- the new version where there is one
abbrev pub or_old : {A : Type 0} → Option A → A → A
or_old None old = old
or_old (Some new) old = new

-- what a step made stands in the book, with its entry
abbrev pub with_made : Contents → Made → Entry → Contents
with_made b m entry = record b { level = m.level; spent = m.spent; frames = or_old m.frames b.frames; facts = or_old m.facts b.facts; tree = m.tree; journal = b.journal ++ entry ∷ [] }

-- the book can take the step: it hasn't ended, and no rule is broken
pub record CanTake (b : Contents) (step : Step) : Type 0 where
  pub kept : IsBook b
  pub goes_on : end (state_of b) ≡ None
  pub unbroken : broken b.system (state_of b) (step_of step) ≡ None

-- the book can take a lemma on the predicate, which the frames have
pub record CanLearn (b : Contents) (pred : ℕ) : Type 0 where
  pub kept : IsBook b
  pub goes_on : end (state_of b) ≡ None
  pub there : pred < b.frames.preds

-- the book can record what the instance concludes
pub record CanRecord (b : Contents) (seen : Seen) (premises : List ℕ) : Type 0 where
  pub kept : IsBook b
  pub goes_on : end (state_of b) ≡ None
  pub premised : unless_body b.system (state_of b) seen premises ≡ None
  pub new : if_recorded b.system (state_of b) seen ≡ None

-- with what was made, the book is as the rules see it then; claims and the number of predicates stay, and false stands among the
-- facts as it does
pub record IsMadeInto (b : Contents) (s : State) (m : Made) : Type 0 where
  pub state : (entry : Entry) → state_of (with_made b m entry) ≡ s
  pub claims : m.tree.claims ≡ b.tree.claims
  pub preds : (or_old m.frames b.frames).preds ≡ b.frames.preds
  pub last : IsLastFalse (or_old m.facts b.facts)

-- it is what the step makes of it
abbrev pub IsMadeBy : Contents → Step → Made → Type 0
IsMadeBy b step m = IsMadeInto b (after b.system (state_of b) (step_of step)) m
