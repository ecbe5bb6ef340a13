use Rattle.std.proofs.Common.{ap, sym, ◌∙◌}
use Rattle.obligation_tree.specs.declared.obligation.Obligation.{Obligation}
use Rattle.obligation_turn.proofs.LearnLemmas.{learnt-of}
use Rattle.obligation_turn.proofs.TurnLemmas.{job-lent}
use Rattle.obligation_turn.proofs.turning.refuted.Goals as goal

pub returns-in_ok-lemma-in-Some-clause-turn : goal.returns-in_ok-lemma-in-Some-clause-turn
returns-in_ok-lemma-in-Some-clause-turn c =
    learnt-of c.args.lent.now c.args.job c.args.nodes c.in-Some.pred c.obligation-obligation.result.now c.in_ok-lemma-in-Some.lemma c.args.proofs c.requires.goes_on c.requires.leaf
    (job-lent _ c.args.lent.now c.args.job c.obligation-obligation.result.now c.lent.view_is c.obligation-obligation.ensures) c.in-Some.is c.in_ok-lemma-in-Some.ensures c.requires.proofs

pub root_step-requires-clause-root : goal.root_step-requires-clause-root
root_step-requires-clause-root c = ap (λ (o : Obligation). o.pred) (sym (job-lent _ c.args.lent.now c.args.job c.obligation-obligation.result.now c.lent.view_is c.obligation-obligation.ensures)) ∙ c.in-None.is
