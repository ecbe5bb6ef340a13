use Rattle.std.proofs.Common.{◌∙◌, sym}
use Rattle.step_rules.specs.machinery.Walks.{lies_in}
use Rattle.step_rules.proofs.FrontLemmas.{under-all}
use Rattle.step_rules.proofs.WalkLemmas.{first-of, of-predicate}
use Rattle.step_rules.proofs.lookups.fact_in.Goals as goal

pub returns-then-count-eq0 : goal.returns-then-count-eq0
returns-then-count-eq0 c = c.first_in.ensures ∙ sym (first-of c.args.pred (lies_in c.args.pred c.args.cube.now) c.args.facts.now _ c.of.ensures (of-predicate c.args.pred c.args.cube.now))

pub returns : goal.returns
returns c = c.least_in.ensures ∙ under-all c.args.facts.now c.args.pred c.args.cube.now _ _ c.under.ensures c.front_of-count.ensures.front
