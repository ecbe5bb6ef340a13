use Rattle.term_check.proofs.StepLemmas.{variables_more, variables_repeated, variables_unsorted, variables_end}
use Rattle.term_check.proofs.binders.variables_fault.Goals as goal

pub loop-item-preserved : goal.loop-item-preserved
loop-item-preserved c =
    variables_more c.args.text.now c.loop-item.seen c.add.new.self c.args.items.now c.loop-item.item-index c.item-item.result c.name_bound-name.result.now c.repeated_fault.result c.sort_name_fault.result _ c.loop-item-test.true c.item-item.is
    c.name_bound-name.ensures c.repeated_fault.ensures c.in_default.is c.sort_name_fault.ensures c.in_default-sort_name_fault.is c.in_ok-add.ensures c.loop-item.invariant

pub returns-in-Some : goal.returns-in-Some
returns-in-Some c =
    variables_repeated c.args.text.now c.loop-item.seen c.args.items.now c.loop-item.item-index c.item-item.result c.name_bound-name.result.now c.repeated_fault.result _ c.in-Some.fault c.loop-item-test.true c.item-item.is
    c.name_bound-name.ensures c.repeated_fault.ensures c.in-Some.is c.loop-item.invariant

pub returns-in-Some-sort_name_fault : goal.returns-in-Some-sort_name_fault
returns-in-Some-sort_name_fault c =
    variables_unsorted c.args.text.now c.loop-item.seen c.args.items.now c.loop-item.item-index c.item-item.result c.name_bound-name.result.now c.repeated_fault.result c.sort_name_fault.result _ c.in-Some-sort_name_fault.fault c.loop-item-test.true c.item-item.is
    c.name_bound-name.ensures c.repeated_fault.ensures c.in_default.is c.sort_name_fault.ensures c.in-Some-sort_name_fault.is c.loop-item.invariant

pub returns : goal.returns
returns c = variables_end c.args.text.now c.loop-item.seen c.args.items.now c.loop-item.item-index _ c.loop-item-test.false c.loop-item.invariant
