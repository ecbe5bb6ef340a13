use Rattle.obligation_turn.proofs.PremiseLemmas.{variable-more}
use Rattle.obligation_turn.proofs.opening.variables.Goals as goal

pub loop-arg-preserved : goal.loop-arg-preserved
loop-arg-preserved c = variable-more c.args.args.now c.loop-arg.variables.items _ c.loop-arg.arg-index _ c.loop-arg-test.true c.in_ok-add_variable.ensures c.loop-arg.invariant
