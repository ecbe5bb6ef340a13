use Rattle.std.proofs.Common.{sym}
use Rattle.refutation_trees.proofs.FlattenLemmas.{literals-And}
use Rattle.lia_stack.proofs.PartLemmas.{joined-more}
use Rattle.lia_stack.proofs.parts.+joining.Goals as goal

pub add_literals-returns-in-And : goal.add_literals-returns-in-And
add_literals-returns-in-And t c = rw (c.in-And.is, literals-And, sym c.as_slice.ensures) c.add_all_literals.ensures

pub add_all_literals-loop-part-preserved : goal.add_all_literals-loop-part-preserved
add_all_literals-loop-part-preserved t c = joined-more c.args.waiting.now c.loop-part.waiting c.add_literals.new.waiting c.args.parts.now c.part-item.result c.loop-part.part-index c.loop-part-test.true c.part-item.is c.loop-part.invariant c.in_ok-add_literals.ensures
