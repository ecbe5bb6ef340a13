use Rattle.search_learn.proofs.TriedLemmas.{in-place-wider, widened-then}
use Rattle.search_learn.proofs.widening.widen.Goals as goal

pub loop-at-preserved : goal.loop-at-preserved
loop-at-preserved c = widened-then c.args.lent.now c.new-tries.result c.loop-at.tries c.widen_at.new.tries c.loop-at.invariant c.in_ok-widen_at.ensures

pub returns : goal.returns
returns c = in-place-wider c.args.lent.now c.args.part c.into_part.result c.new-tries.result c.loop-at.tries c.new-tries.ensures.part c.loop-at.invariant c.into_part.ensures
