use Rattle.derivations.proofs.MarkLemmas.{collected_push, collected_skip}
use Rattle.derivations.proofs.marks.collect.Goals as goal

pub returns-then-marks-at : goal.returns-then-marks-at
returns-then-marks-at c = rw c.in_ok-push.ensures.items (collected_push c.args.marks.now c.args.at c.args.steps.now.items c.requires.collected c.if-marks-at.true)

pub returns : goal.returns
returns c = collected_skip c.args.marks.now c.args.at c.args.steps.now.items c.requires.collected c.if-marks-at.false
