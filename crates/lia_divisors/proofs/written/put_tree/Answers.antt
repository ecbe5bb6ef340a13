use Rattle.lia_divisors.proofs.PlainLemmas.{plain-pushed}
use Rattle.lia_divisors.proofs.written.put_tree.Goals as goal

pub returns : goal.returns
returns c = plain-pushed _ c.args.trees.now.items c.args.tree c.requires.all c.requires.plain c.in_ok-push.ensures.items
