use Rattle.clause_defined.proofs.UseLemmas.{next_judged}
use Rattle.clause_defined.proofs.judging.judge_next.Goals as goal

pub returns-clause-judged : goal.returns-clause-judged
returns-clause-judged c = λ naming sign rest whole first stand state.
    next_judged c.args.defs.now c.args.terms.now.nodes naming c.args.atom.now sign rest whole first c.args.count c.in_ok-more.more c.capped.result
    (λ next s. c.in_ok-more.ensures.narrow naming next s) (c.in_ok-more.ensures.count naming) c.capped.ensures.is stand state
