use Rattle.term_check.proofs.StepLemmas.{let_names_more, let_names_stop, let_names_end}
use Rattle.term_check.proofs.binders.let_names_fault.Goals as goal

pub loop-item-preserved : goal.loop-item-preserved
loop-item-preserved c =
    let_names_more c.args.text.now c.loop-item.seen c.add.new.self c.args.items.now c.loop-item.item-index c.item-item.result c.name_bound-name.result.now c.repeated_fault.result _ c.loop-item-test.true c.item-item.is
    c.name_bound-name.ensures c.repeated_fault.ensures c.in_default.is c.in_ok-add.ensures c.loop-item.invariant

pub returns-in-Some : goal.returns-in-Some
returns-in-Some c =
    let_names_stop c.args.text.now c.loop-item.seen c.args.items.now c.loop-item.item-index c.item-item.result c.name_bound-name.result.now c.repeated_fault.result _ c.in-Some.fault c.loop-item-test.true c.item-item.is
    c.name_bound-name.ensures c.repeated_fault.ensures c.in-Some.is c.loop-item.invariant

pub returns : goal.returns
returns c = let_names_end c.args.text.now c.loop-item.seen c.args.items.now c.loop-item.item-index _ c.loop-item-test.false c.loop-item.invariant
