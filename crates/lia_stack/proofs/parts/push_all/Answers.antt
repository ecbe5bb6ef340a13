use Rattle.lia_stack.proofs.StepLemmas.{taken-more}
use Rattle.lia_stack.proofs.parts.push_all.Goals as goal

pub loop-parts-preserved : goal.loop-parts-preserved
loop-parts-preserved c = taken-more c.args.cases.now c.parts-item.result c.in_ok-copy.field-0 c.loop-parts.parts-index c.args.made.now.items c.loop-parts.made.items c.push.new.self.items c.loop-parts-test.true c.parts-item.is c.in_ok-copy.ensures c.loop-parts.invariant c.in_ok-push.ensures.items
