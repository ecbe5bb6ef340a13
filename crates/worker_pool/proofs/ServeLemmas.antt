-- What a turn offers to the book of its run.
use Rattle.std.proofs.Common.{◌≡◌, ℕ}
use Rattle.clause_form.specs.System.{Clauses}
use Rattle.step_rules.specs.Standing.{Standing}
use Rattle.step_rules.specs.declared.step.Step.{Step}
use Rattle.search_strategy.specs.machinery.Steps.{IsOffered, IsTaken}
use Rattle.search_strategy.proofs.StepLemmas.{offered}
use Rattle.worker_pool.proofs.OfferLemmas.{offered-in}

pub offered-run : (b : Standing) (sys : Clauses) (nodes own : ℕ) (step : Step) → b.system ≡ sys → nodes ≡ own → IsTaken b nodes step → IsOffered sys own step
offered-run b sys nodes own step same is h = offered-in b.system sys nodes own step same is (offered b nodes step h)
