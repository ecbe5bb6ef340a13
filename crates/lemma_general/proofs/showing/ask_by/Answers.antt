use Rattle.std.proofs.Common.{Some, ap, ◌∙◌, subst}
use Rattle.clause_queries.specs.declared.finding.Found.{Found}
use Rattle.lemma_general.specs.machinery.Passes.{IsFoundByOwn}
use Rattle.lemma_general.proofs.OwnLemmas.{answered, own-hit}
use Rattle.lemma_general.proofs.showing.ask_by.Goals as goal

pub returns-in-Some-Instance : goal.returns-in-Some-Instance
returns-in-Some-Instance c =
    own-hit c.args.lent.now c.args.pred c.args.k c.args.cube.now c.in-Some-Instance.seen (subst (IsFoundByOwn c.args.lent.now c.args.pred c.args.cube.now c.args.k c.args.nodes) (c.in-Some-Instance.is ∙ ap (λ (f : Found). Some f) c.in-Some-Instance.field-0-is) c.in_ok-asked.ensures)

pub returns : goal.returns
returns c = answered c.args.lent.now c.args.pred c.args.cube.now c.args.k c.args.nodes c.ask_lent-in_default.result c.ask_lent-in_default.ensures
