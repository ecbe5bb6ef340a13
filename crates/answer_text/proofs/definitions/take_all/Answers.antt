use Rattle.std.proofs.Common.{arith}
use Rattle.answer_text.proofs.DefinitionLemmas.{one_weighs, stopped, goes_on, all_taken}
use Rattle.answer_text.proofs.definitions.take_all.Goals as goal

pub take-requires-clause-weight : goal.take-requires-clause-weight
take-requires-clause-weight c =
    let w = one_weighs c.args.trees.now c.loop-tree.tree-index c.tree-item.result c.loop-tree-test.true c.tree-item.is in omega (arith, w, c.requires.weight)

pub returns-in-Err : goal.returns-in-Err
returns-in-Err c =
    let so = c.loop-tree.invariant in
    stopped c.args.text.now c.args.declared.now c.args.trees.now c.loop-tree.tree-index c.tree-item.result c.loop-tree.places.items so c.loop-tree-test.true c.tree-item.is c.take.new.places.items c.in-Err.stop (c.in-Err.ensures so.before so.places_are)

pub loop-tree-preserved : goal.loop-tree-preserved
loop-tree-preserved c =
    let so = c.loop-tree.invariant in
    goes_on c.args.text.now c.args.declared.now c.args.trees.now c.loop-tree.tree-index c.tree-item.result c.loop-tree.places.items so c.loop-tree-test.true c.tree-item.is c.take.new.places.items c.in_default.field-0 (c.in_default.ensures so.before so.places_are)

pub returns : goal.returns
returns c = all_taken c.args.text.now c.args.declared.now c.args.trees.now c.loop-tree.tree-index c.loop-tree.places.items c.loop-tree.invariant c.loop-tree-test.false
