use Rattle.std.proofs.Common.{refl, length}
use Rattle.lia_node.specs.machinery.Columns.{sides_fit}
use Rattle.lia_node.proofs.MeetLemmas.{all-set, lone-below, one-met}
use Rattle.lia_node.proofs.columns.meet.Goals as goal

pub returns-in-Some-clause-is : goal.returns-in-Some-clause-is
returns-in-Some-clause-is c = λ n bs old.
    let only = c.in-Some.ensures.some in
    one-met c.args.bounded.now bs n c.in-Some.variable only.0 c.args.made.now _ _ c.met.result _ only.1 (lone-below c.args.bounded.now (length c.args.made.now) c.in-Some.variable only.0 only.1 c.requires.below) refl c.met.ensures.is refl old

pub returns-in-Some-clause-fit : goal.returns-in-Some-clause-fit
returns-in-Some-clause-fit c = all-set sides_fit c.args.made.now c.in-Some.variable c.met.result c.requires.fit c.met.ensures.fit
