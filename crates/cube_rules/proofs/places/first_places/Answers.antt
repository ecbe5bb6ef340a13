use Rattle.std.proofs.Common.{arith}
use Rattle.cube_rules.proofs.BoundLemmas.{none-above}
use Rattle.cube_rules.proofs.PlacedLemmas.{names-are, names-more}
use Rattle.cube_rules.proofs.places.first_places.Goals as goal

pub loop-variable-preserved : goal.loop-variable-preserved
loop-variable-preserved c = names-more c.args.args.now c.loop-variable.names.items c.push.new.self.items c.loop-variable.variable c.first_place.result c.in_ok-push.ensures.items c.first_place.ensures c.loop-variable.invariant

pub returns : goal.returns
returns c =
    let over = c.loop-variable-test.false in
    names-are c.args.args.now c.loop-variable.names.items c.loop-variable.variable c.loop-variable.invariant (none-above c.args.args.now c.bound_of-bound.result c.loop-variable.variable (omega arith) c.bound_of-bound.ensures.above)
