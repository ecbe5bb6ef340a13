use Rattle.search_learn.proofs.TriedLemmas.{tried-then}
use Rattle.search_learn.proofs.shrinking.shrink.Goals as goal

pub loop-preserved : goal.loop-preserved
loop-preserved c = tried-then c.args.lent.now c.args.tries.now c.loop.tries c.shrink_by.new.tries c.loop.invariant c.in_ok-shrink_by.ensures
