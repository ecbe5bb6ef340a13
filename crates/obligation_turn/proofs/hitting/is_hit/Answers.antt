use Rattle.obligation_turn.proofs.HitLemmas.{hit-is, seen-there}
use Rattle.obligation_turn.proofs.hitting.is_hit.Goals as goal

pub clause-clause-requires : goal.clause-clause-requires
clause-clause-requires c = seen-there c.args.sys.now c.args.seen.now c.clause.result c.clause.ensures c.requires.seen

pub returns : goal.returns
returns c =
    hit-is c.args.sys.now c.args.frames.now.lemmas c.args.pred c.args.lemma.now c.args.k c.args.seen.now c.clause.result c.clause-clause.result.now c.point.result.now c.in_ok-hit.hit c.clause.ensures c.clause-clause.ensures.is c.point.ensures c.requires.seen c.in_ok-hit.ensures
