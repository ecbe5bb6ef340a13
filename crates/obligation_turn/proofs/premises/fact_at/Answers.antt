use Rattle.std.proofs.Common.{ap, ◌∙◌}
use Rattle.cube_forms.specs.Cubes.{tuple_at}
use Rattle.obligation_turn.proofs.PremiseLemmas.{fact-at}
use Rattle.obligation_turn.proofs.premises.fact_at.Goals as goal

pub returns : goal.returns
returns c = fact-at c.args.facts.now c.find-found.result c.args.point.now c.args.atom.now _ (c.as_slice-2.ensures ∙ c.in_ok-tuple.ensures ∙ ap (tuple_at c.args.point.now) c.as_slice.ensures) c.find-found.ensures
