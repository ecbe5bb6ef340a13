use Rattle.std.proofs.Common.{◌∙◌, arith, sym}
use Rattle.refutation_trees.proofs.CopyLemmas.{pending_push, plug_all_pushed}
use Rattle.refutation_trees.proofs.copying.ascend.Goals as goal

pub loop-frame-smaller : goal.loop-frame-smaller
loop-frame-smaller c =
    let less = rw c.in-Up.is at c.in_ok-node.ensures.less in
    let popped = pending_push c.pop.new.self.items c.loop-frame.frames.items c.in-Some.frame c.in-Some.ensures.items in
    omega (arith, less, popped)

pub loop-frame-preserved : goal.loop-frame-preserved
loop-frame-preserved c =
    let whole = rw c.in-Up.is at c.in_ok-node.ensures.whole in
    let less = rw c.in-Up.is at c.in_ok-node.ensures.less in
    let popped = pending_push c.pop.new.self.items c.loop-frame.frames.items c.in-Some.frame c.in-Some.ensures.items in
    record {
      whole = whole ∙ sym (plug_all_pushed c.pop.new.self.items c.loop-frame.frames.items c.in-Some.frame c.loop-frame.made c.in-Some.ensures.items) ∙ c.loop-frame.invariant.whole;
      less = omega (arith, less, popped, c.loop-frame.invariant.less);
    }

pub returns-in-Down-clause-whole : goal.returns-in-Down-clause-whole
returns-in-Down-clause-whole c =
    let whole = rw c.in-Down.is at c.in_ok-node.ensures.whole in
    whole ∙ sym (plug_all_pushed c.pop.new.self.items c.loop-frame.frames.items c.in-Some.frame c.loop-frame.made c.in-Some.ensures.items) ∙ c.loop-frame.invariant.whole
