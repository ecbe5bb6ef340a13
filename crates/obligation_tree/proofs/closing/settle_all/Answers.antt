use Rattle.obligation_tree.specs.Closing.{hits}
use Rattle.obligation_tree.proofs.ClosingLemmas.{settle-more}
use Rattle.obligation_tree.proofs.closing.settle_all.Goals as goal

pub loop-number-preserved : goal.loop-number-preserved
loop-number-preserved c = settle-more (hits c.args.cause) c.args.entry c.args.numbers.now c.loop-number.number-index c.loop-number.nodes _ c.args.nodes.now c.loop-number-test.true c.in_ok-settle.ensures c.loop-number.invariant
