use Rattle.std.proofs.Common.{◌≡◌, ap, ◌∙◌}
use Rattle.std.proofs.lemmas.List.{take_all}
use Rattle.model_project.specs.Projection.{point}
use Rattle.model_project.specs.machinery.Steps.{are_narrow}
use Rattle.model_project.proofs.EliminationLemmas.{point_narrow}
use Rattle.model_project.proofs.elimination.point.Goals as goal

pub returns-clause-narrow : goal.returns-clause-narrow
returns-clause-narrow c = λ h.
    let is : c.loop-variable.made.items ≡ point c.args.model.now c.args.keep.now = c.loop-variable.invariant ∙ ap (point c.args.model.now) (take_all c.loop-variable.variable-index c.args.keep.now c.loop-variable-test.false) in
    ap are_narrow is ∙ point_narrow c.args.model.now c.args.keep.now h
