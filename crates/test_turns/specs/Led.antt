-- Books that are led on turn by turn.
use Rattle.std.specs.Prelude.{◌≡◌, ◌<◌, ℕ, List, length, true, false, None}
use Rattle.lemma_frames.specs.declared.framed.Framed.{Framed}
use Rattle.obligation_tree.specs.Nodes.{has_live_child, is_live_at, is_stalled_in, node_at, obligation_in}
use Rattle.obligation_tree.specs.declared.node.Node.{Node}
use Rattle.book_rules.specs.Areas.{is_wide}
use Rattle.book_rules.specs.Legal.{end}
use Rattle.book_rules.specs.Places.{has_places}
use Rattle.book_rules.specs.Rules.{broken}
use Rattle.book_rules.specs.Walks.{AllOf}
use Rattle.step_rules.specs.Standing.{Standing, standing_state as state_at}
use Rattle.step_rules.specs.Taken.{IsMadeFor, step_of}
use Rattle.step_rules.specs.declared.step.Step.{Step}
use Rattle.chc_core.specs.Contents.{Contents}
use Rattle.chc_core.specs.Views.{standing_of, state_of}
use Rattle.obligation_turn.specs.Turns.{IsThin, StepIsThin}
use Rattle.search_strategy.specs.Runs.{CanRun}

-- thin cubes of lemmas, and of obligations
abbrev pub AreThin : List Framed → Type 0
AreThin fs = AllOf (λ (f : Framed). is_wide f.lemma ≡ false) fs

abbrev pub HaveThin : List Node → Type 0
HaveThin nodes = AllOf (λ (n : Node). is_wide (obligation_in n).cube ≡ false) nodes

-- a book that can be searched, with thin cubes, and hasn't ended
pub record IsOn (b : Contents) : Type 0 where
  pub can_run : CanRun b.system
  pub thin : IsThin (standing_of b)
  pub goes_on : end (state_of b) ≡ None

-- an obligation that may be asked
pub record IsFree (nodes : List Node) (n : ℕ) : Type 0 where
  pub there : n < length nodes
  pub live : is_live_at nodes n ≡ true
  pub leaf : has_live_child nodes n ≡ false
  pub unmarked : is_stalled_in (node_at nodes n) ≡ false

-- a step that the book takes, with thin cubes
pub record IsGiven (b : Standing) (step : Step) : Type 0 where
  pub unbroken : broken b.system (state_at b) (step_of step) ≡ None
  pub made : IsMadeFor b.system step
  pub places : has_places b.system (step_of step) ≡ true
  pub thin : StepIsThin step
