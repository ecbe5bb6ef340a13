use Rattle.std.proofs.Common.{◌≡◌, ap, sym, ◌∙◌, true, Some}
use Rattle.std.proofs.lemmas.Result.{IfOk-weaker}
use Rattle.model_project.specs.Elimination.{nearest}
use Rattle.model_project.specs.Substitution.{coefficient, lin_has}
use Rattle.model_project.proofs.CrossLemmas.{has_test}
use Rattle.model_project.proofs.LoopLemmas.{nearest_has}
use Rattle.model_project.proofs.rules.bound_equation.Goals as goal

pub shifted-requires-clause-has : goal.shifted-requires-clause-has
shifted-requires-clause-has c =
    let lin = c.in-Ok-Some.bound.lin.now in
    let found : Some lin ≡ nearest c.args.model.now c.args.below c.args.variable c.args.lits.now = rw c.in-Ok-Some.field-0-is at c.in-Ok-Some.ensures.is in
    nearest_has c.args.model.now c.args.below c.args.variable c.args.lits.now lin (sym found)

pub returns-in-Some-clause-has : goal.returns-in-Some-clause-has
returns-in-Some-clause-has c =
    let v = c.args.variable in
    let lin = c.in-Ok-Some.bound.lin.now in
    let found : Some lin ≡ nearest c.args.model.now c.args.below v c.args.lits.now = rw c.in-Ok-Some.field-0-is at c.in-Ok-Some.ensures.is in
    let has : lin_has v lin ≡ true = has_test (coefficient v lin) (nearest_has c.args.model.now c.args.below v c.args.lits.now lin (sym found)) in
    IfOk-weaker c.shifted.result _ _ (λ made is. ap (lin_has v) is ∙ has) c.shifted.ensures.made
