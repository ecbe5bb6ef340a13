use Rattle.search_learn.proofs.TriedLemmas.{widened-then}
use Rattle.search_learn.proofs.widening.widen_at.Goals as goal

pub loop-preserved : goal.loop-preserved
loop-preserved c = widened-then c.args.lent.now c.args.tries.now c.loop.tries c.try_move.new.tries c.loop.invariant c.in_ok-taken.ensures
