use Rattle.search_learn.proofs.TriedLemmas.{tried-then}
use Rattle.search_learn.proofs.shrinking.shrink_by.Goals as goal

pub loop-preserved : goal.loop-preserved
loop-preserved c = tried-then c.args.lent.now c.args.tries.now c.loop.tries c.try_without.new.tries c.loop.invariant c.in_ok-taken.ensures
