-- Steps that a book takes, or may take.
use Rattle.std.specs.Prelude.{◌≡◌, ℕ, List, true, None}
use Rattle.std.specs.List.{list_all}
use Rattle.clause_form.specs.System.{Clauses}
use Rattle.chc_tokens.specs.Tokens.{IsShownToken}
use Rattle.chc_tokens.specs.declared.refuting.Shown.{Shown}
use Rattle.book_rules.specs.Places.{has_places, shown_has_places}
use Rattle.book_rules.specs.Rules.{broken}
use Rattle.book_rules.specs.Walks.{AllOf}
use Rattle.step_rules.specs.Standing.{Standing, standing_state}
use Rattle.step_rules.specs.Taken.{IsMadeFor, step_of}
use Rattle.step_rules.specs.Tokens.{all_shown}
use Rattle.step_rules.specs.declared.step.Step.{Step}
use Rattle.obligation_turn.specs.Counts.{StepCounts}
use Rattle.obligation_turn.specs.Turns.{StepIsThin}

-- what is needed of a turn: the step breaks no rule, its tokens are the system's and its cubes over their predicates; evidence
-- counts the nodes that were allowed, and what is added is thin
pub record IsTaken (b : Standing) (nodes : ℕ) (step : Step) : Type 0 where
  pub unbroken : broken b.system (standing_state b) (step_of step) ≡ None
  pub made : IsMadeFor b.system step
  pub places : has_places b.system (step_of step) ≡ true
  pub counts : StepCounts nodes step
  pub thin : StepIsThin step

-- the same of a step that may break a rule
pub record IsOffered (sys : Clauses) (nodes : ℕ) (step : Step) : Type 0 where
  pub made : IsMadeFor sys step
  pub places : has_places sys (step_of step) ≡ true
  pub counts : StepCounts nodes step
  pub thin : StepIsThin step

-- proofs of a lemma that were made for the system
pub record AreFor (sys : Clauses) (proofs : List Shown) : Type 0 where
  pub made : AllOf (IsShownToken sys) proofs
  pub places : list_all (shown_has_places sys) (all_shown proofs) ≡ true
