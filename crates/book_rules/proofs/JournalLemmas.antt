-- A journal that grows by one entry.
use Rattle.std.proofs.Common.{◌≡◌, List, [], ◌∷◌, ◌++◌, refl}
use Rattle.clause_form.specs.System.{Clauses}
use Rattle.book_rules.specs.State.{State}
use Rattle.book_rules.specs.Steps.{Step}
use Rattle.book_rules.specs.Effects.{after}
use Rattle.book_rules.specs.Legal.{IsLegal, AreLegal, replay}

pub replay-push : (sys : Clauses) (s : State) (steps : List Step) (step : Step) → replay sys s (steps ++ step ∷ []) ≡ after sys (replay sys s steps) step
replay-push sys s [] step = refl
replay-push sys s (x ∷ steps) step = replay-push sys (after sys s x) steps step

pub legal-push : (sys : Clauses) (s : State) (steps : List Step) (step : Step) → AreLegal sys s steps → IsLegal sys (replay sys s steps) step → AreLegal sys s (steps ++ step ∷ [])
legal-push sys s [] step before legal = (legal, tt)
legal-push sys s (x ∷ steps) step before legal = (before.0, legal-push sys (after sys s x) steps step before.1 legal)
