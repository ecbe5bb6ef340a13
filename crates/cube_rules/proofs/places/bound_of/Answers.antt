use Rattle.cube_rules.proofs.BoundLemmas.{bound-more}
use Rattle.cube_rules.proofs.places.bound_of.Goals as goal

pub loop-arg-preserved : goal.loop-arg-preserved
loop-arg-preserved c = (bound-more c.args.args.now c.loop-arg.arg-index 0 c.loop-arg.bound c.bound_with-bound.result c.loop-arg-test.true c.bound_with-bound.ensures.old c.bound_with-bound.ensures.new c.loop-arg.invariant.0, c.bound_with-bound.ensures.most)
