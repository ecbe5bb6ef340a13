use Rattle.std.proofs.Common.{arith}
use Rattle.term_check.proofs.StepLemmas.{bound_more, variables_next}
use Rattle.term_check.proofs.bindings.Bindings.bind_variables.Goals as goal

pub loop-item-preserved : goal.loop-item-preserved
loop-item-preserved c =
    let inv = c.loop-item.invariant in
    let next = variables_next c.args.text.now c.loop-item.number c.args.items.now c.loop-item.item-index c.item-item.result c.name_bound.result.now c.sort_bound-sort.result c.loop-item-test.true c.item-item.is c.name_bound.ensures c.sort_bound-sort.ensures in
    let number = inv.1 in
    (bound_more c.loop-item.self c.bind.new.self _ _ _ _ c.in_ok-bind.ensures next inv.0, omega (arith, number))
