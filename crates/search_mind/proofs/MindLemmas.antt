-- What a worker may offer.
use Rattle.std.proofs.Common.{ℕ}
use Rattle.std.specs.Prelude.{Option, Some, None, Result, Ok, Err, IfOk, IfSome}
use Rattle.step_rules.specs.Standing.{Standing}
use Rattle.step_rules.specs.declared.step.Step.{Step}
use Rattle.search_strategy.specs.machinery.Steps.{IsOffered, IsTaken}
use Rattle.search_strategy.proofs.StepLemmas.{offered}

-- a step that the book takes may be offered
pub may-offer : {E : Type 0} (b : Standing) (nodes : ℕ) (found : Result (Option Step) E) → IfOk found (λ o. IfSome o (IsTaken b nodes)) → IfOk found (λ o. IfSome o (IsOffered b.system nodes))
may-offer b nodes (Ok (Some step)) h = offered b nodes step h
may-offer b nodes (Ok None) h = tt
may-offer b nodes (Err e) h = tt
