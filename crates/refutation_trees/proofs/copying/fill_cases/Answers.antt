use Rattle.std.proofs.Common.{sym}
use Rattle.refutation_trees.proofs.CopyLemmas.{cases-done, cases-more, cases-pending}
use Rattle.refutation_trees.proofs.copying.fill_cases.Goals as goal

pub returns-in_ok-push-in-Some-clause-whole : goal.returns-in_ok-push-in-Some-clause-whole
returns-in_ok-push-in-Some-clause-whole c =
    cases-more c.args.which c.args.frames.now.items c.push-in-Some.new.self.items c.args.subs c.args.made c.push.new.self c.args.tree c.in-Some.sub.now c.len.result
    c.in_ok-push-in-Some.ensures.items c.in_ok-push.ensures.ok c.len.ensures (sym c.in-Some.ensures.value) c.in-Some.ensures.within

pub returns-in_ok-push-in-Some-clause-less : goal.returns-in_ok-push-in-Some-clause-less
returns-in_ok-push-in-Some-clause-less c =
    cases-pending c.args.which c.args.frames.now.items c.push-in-Some.new.self.items c.args.subs c.args.made c.push.new.self c.args.tree c.in-Some.sub.now c.len.result
    c.in_ok-push-in-Some.ensures.items c.in_ok-push.ensures.ok c.len.ensures (sym c.in-Some.ensures.value) c.in-Some.ensures.within

pub returns-in-None-clause-whole : goal.returns-in-None-clause-whole
returns-in-None-clause-whole c = cases-done c.args.which c.args.frames.now.items c.args.subs.now c.args.made c.push.new.self c.args.tree c.len.result c.in_ok-push.ensures.ok c.len.ensures (sym c.in-None.ensures.value)
