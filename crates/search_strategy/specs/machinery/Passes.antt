-- Which lemmas are lifted after a step, and the strategy of a worker.
use Rattle.std.specs.Prelude.{◌&&◌, ◌==◌, ◌%◌, ℕ, nat_lt, Option, Some, None}
use Rattle.step_rules.specs.Standing.{Standing}
use Rattle.step_rules.specs.declared.step.Step.{Step}
use Rattle.step_rules.specs.declared.step.Step.TheVariants.{RaiseStep, LiftStep}
use Rattle.search_strategy.specs.Lifts.{Lifts, MayLift, Stays}
use Rattle.search_strategy.specs.declared.lifts.Pass.{Pass}
use Rattle.search_strategy.specs.declared.strategy.Strategy.{Strategy}

-- after a Raise those of the level that was the highest, after a Lift the later ones
abbrev pub pass_of : ℕ → Step → Option Pass
pass_of level (RaiseStep part) = Some (record { next = 0; least = level })
pass_of level (LiftStep part) = Some (record { next = part.lemma; least = 1 })
pass_of level step = None

-- workers from the second on differ by their order: odd ones begin with what proofs use, even ones leave literals out from the first on
abbrev pub strategy_of : ℕ → Strategy
strategy_of worker = record { cores_first = nat_lt 1 worker && (worker % 2 == 1); reversed = worker % 2 == 1 }

-- the Lift of a lemma, if it may be lifted; none only where it may not, or stays
abbrev pub IsLiftAt : Standing → ℕ → ℕ → ℕ → Option Step → Type 0
IsLiftAt b nodes least id (Some step) = MayLift b least id × Lifts b id step
IsLiftAt b nodes least id None = MayLift b least id → Stays b nodes id
