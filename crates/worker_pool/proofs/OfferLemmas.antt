-- What is offered to the book of a run.
use Rattle.std.proofs.Common.{◌≡◌, ℕ, subst}
use Rattle.clause_form.specs.System.{Clauses}
use Rattle.step_rules.specs.declared.step.Step.{Step}
use Rattle.search_strategy.specs.machinery.Steps.{IsOffered}

pub offered-in : (a b : Clauses) (nodes own : ℕ) (step : Step) → a ≡ b → nodes ≡ own → IsOffered a nodes step → IsOffered b own step
offered-in a b nodes own step same is h = subst (λ (n : ℕ). IsOffered b n step) is (subst (λ (s : Clauses). IsOffered s nodes step) same h)
