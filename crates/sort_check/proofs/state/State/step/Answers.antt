use Rattle.std.proofs.Common.{length, ◌-◌, arith}
use Rattle.sort_check.proofs.WeightLemmas.{parts_weigh}
use Rattle.sort_check.proofs.state.State.step.Goals as goal

pub take-requires-clause-weight : goal.take-requires-clause-weight
take-requires-clause-weight c =
    let w = parts_weigh c.args.tree.now c.in-List.items c.as_slice.result.now c.in-List.start c.in-List.end (length c.as_slice.result.now - 1) c.in-List.is c.as_slice.ensures in
    omega (arith, w, c.requires.weight)
