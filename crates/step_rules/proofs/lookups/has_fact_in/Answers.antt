use Rattle.std.proofs.Common.{◌∙◌, sym, ap}
use Rattle.std.specs.Prelude.{is_some}
use Rattle.step_rules.specs.Views.{facts_of}
use Rattle.step_rules.specs.machinery.Walks.{lies_in}
use Rattle.step_rules.proofs.WalkLemmas.{any-first}
use Rattle.step_rules.proofs.lookups.has_fact_in.Goals as goal

pub returns : goal.returns
returns c = c.is_some.ensures ∙ ap is_some c.fact_in.ensures ∙ sym (any-first 0 (lies_in c.args.pred c.args.cube.now) (facts_of c.args.facts.now))
