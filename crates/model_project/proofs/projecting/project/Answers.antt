use Rattle.std.proofs.Common.{◌≡◌, ap, sym, ◌∙◌, true}
use Rattle.model_project.specs.machinery.Steps.{are_legal}
use Rattle.model_project.proofs.EliminationLemmas.{kept_projection}
use Rattle.model_project.proofs.projecting.project.Goals as goal

pub invariant_of-result : goal.invariant_of-result
invariant_of-result c =
    let cube = c.from_vec-cube.result in
    let is = c.from_vec-cube.ensures ∙ c.in_ok-cube.ensures.is in
    let ordered : are_legal cube ≡ true = ap are_legal (c.from_vec-cube.ensures ∙ sym c.as_slice.ensures.value) ∙ c.variables_rise.ensures in
    kept_projection c.args.lits.now c.in_ok-lits.lits c.args.model.now c.in_ok-model.model c.args.keep.now c.in_ok-keep.keep cube c.in_ok-lits.ensures c.in_ok-model.ensures c.in_ok-keep.ensures is c.requires.holds c.divisors_are_above.ensures c.requires.places ordered
