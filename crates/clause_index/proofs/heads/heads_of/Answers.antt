use Rattle.clause_index.proofs.HeadLemmas.{at-of, filled-next, is-listed-at}
use Rattle.clause_index.proofs.heads.heads_of.Goals as goal

pub place-requires : goal.place-requires
place-requires c =
    is-listed-at c.args.system.now c.loop-number.number c.clause-item.result c.loop-number.heads c.preds.ensures.legal
    (at-of c.clauses-clause-items.result.now c.args.system.now.clauses c.loop-number.number c.clause-item.result c.clauses-clause-items.ensures.is c.loop-number-test.true c.clause-item.is) c.loop-number.invariant

pub loop-number-preserved : goal.loop-number-preserved
loop-number-preserved c =
    let at = at-of c.clauses-clause-items.result.now c.args.system.now.clauses c.loop-number.number c.clause-item.result c.clauses-clause-items.ensures.is c.loop-number-test.true c.clause-item.is in
    filled-next c.args.system.now c.loop-number.number c.clause-item.result c.loop-number.heads c.place.new.heads at
    (is-listed-at c.args.system.now c.loop-number.number c.clause-item.result c.loop-number.heads c.preds.ensures.legal at c.loop-number.invariant) c.in_ok-place.ensures c.loop-number.invariant
