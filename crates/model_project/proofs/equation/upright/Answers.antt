use Rattle.std.proofs.Common.{◌≡◌, arith, ap, ◌∙◌}
use Rattle.std.specs.Prelude.{neg_ℤ}
use Rattle.std.proofs.lemmas.Int.{ints}
use Rattle.model_project.specs.Substitution.{coefficient}
use Rattle.model_project.proofs.PointLemmas.{coefficient-negated}
use Rattle.model_project.proofs.equation.upright.Goals as goal

pub returns-in_ok-made-clause-above : goal.returns-in_ok-made-clause-above
returns-in_ok-made-clause-above c = λ has.
    let v = c.args.variable in
    let lin = c.args.lin.now in
    let turned : coefficient v c.in_ok-made.made ≡ neg_ℤ (coefficient v lin) = ap (coefficient v) c.in_ok-made.ensures.made ∙ coefficient-negated v lin in
    omega (arith, ints, turned, c.coefficient.ensures.is, c.if-coefficient-lt0.true)
