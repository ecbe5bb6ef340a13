use Rattle.std.proofs.Common.{refl}
use Rattle.chc_checker.proofs.LinkLemmas.{bound_one, bound_zero}
use Rattle.chc_checker.proofs.links.bound_value.Goals as goal

pub returns-then-is_marked : goal.returns-then-is_marked
returns-then-is_marked c = bound_one c.args.low.now c.args.high.now c.args.lin.now c.in-Some.v c.in-Some.ensures (c.if-is_marked.ensures refl)

pub returns-then-is_marked-2 : goal.returns-then-is_marked-2
returns-then-is_marked-2 c = bound_zero c.args.low.now c.args.high.now c.args.lin.now c.in-Some-variable_of.v c.in-Some-variable_of.ensures (c.if-is_marked-2.ensures refl)
