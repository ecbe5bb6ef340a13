use Rattle.std.proofs.Common.{◌+◌, List, Bool, sym, subst, arith}
use Rattle.derivations.specs.machinery.Marks.{AreCollected}
use Rattle.derivations.proofs.MarkLemmas.{all_steps, collected_none}
use Rattle.derivations.proofs.marks.steps.Goals as goal

pub returns : goal.returns
returns c = all_steps c.args.notes.now c.args.id c.loop-at.at c.in_ok-marks.marks.items c.loop-at.steps.items c.in_ok-marks.ensures c.loop-at-test.false c.loop-at.invariant.1

pub loop-at-preserved : goal.loop-at-preserved
loop-at-preserved c =
    let less = c.loop-at-test.true in
    (omega arith, subst (λ (ms : List Bool). AreCollected ms (c.loop-at.at + 1) c.collect.new.steps.items) c.as_slice.ensures.value c.in_ok-collect.ensures)

pub loop-at-init : goal.loop-at-init
loop-at-init c = (omega arith, rw c.new-steps.ensures.items (collected_none c.in_ok-marks.marks.items))

pub collect-requires-clause-collected : goal.collect-requires-clause-collected
collect-requires-clause-collected c = subst (λ (ms : List Bool). AreCollected ms c.loop-at.at c.loop-at.steps.items) (sym c.as_slice.ensures.value) c.loop-at.invariant.1
