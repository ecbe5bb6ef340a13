-- What the steps of turns and lifts have.
use Rattle.std.proofs.Common.{ℕ}
use Rattle.step_rules.specs.Standing.{Standing}
use Rattle.step_rules.specs.declared.lift_step.part.LiftPart.{LiftPart}
use Rattle.step_rules.specs.declared.step.Step.{Step}
use Rattle.step_rules.specs.declared.step.Step.TheVariants.{LiftStep}
use Rattle.obligation_turn.specs.Turns.{IsTurn}
use Rattle.lemma_general.specs.Generals.{IsLiftOf}
use Rattle.search_strategy.specs.machinery.Steps.{IsOffered, IsTaken}

pub taken : (b : Standing) (job nodes : ℕ) (step : Step) → IsTurn b job nodes step → IsTaken b nodes step
taken b job nodes step h = record { unbroken = h.unbroken; made = h.made; places = h.places; counts = h.counts; thin = h.thin }

pub taken-lift : (b : Standing) (id nodes : ℕ) (part : LiftPart) → IsLiftOf b id part → IsTaken b nodes (LiftStep part)
taken-lift b id nodes part h = record { unbroken = h.unbroken; made = h.made; places = h.places; counts = tt; thin = tt }

pub offered : (b : Standing) (nodes : ℕ) (step : Step) → IsTaken b nodes step → IsOffered b.system nodes step
offered b nodes step h = record { made = h.made; places = h.places; counts = h.counts; thin = h.thin }
