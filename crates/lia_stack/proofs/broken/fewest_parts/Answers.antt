use Rattle.std.proofs.Common.{arith}
use Rattle.lia_stack.proofs.FewestLemmas.{fewest-first}
use Rattle.lia_stack.proofs.broken.fewest_parts.Goals as goal

pub fewest-init : goal.fewest-init
fewest-init c = (omega arith, fewest-first c.args.point.now c.args.cases.now c.args.known c.requires.within c.requires.broken c.requires.before)
