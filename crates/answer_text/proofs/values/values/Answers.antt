use Rattle.std.proofs.Common.{ap, sym, ◌∙◌}
use Rattle.std.specs.Prelude.{Ok}
use Rattle.answer_text.specs.Reading.{value}
use Rattle.answer_text.proofs.EachLemmas.{each_goes_on, each_ends, each_fails}
use Rattle.answer_text.proofs.values.values.Goals as goal

pub loop-tree-preserved : goal.loop-tree-preserved
loop-tree-preserved c =
    each_goes_on (value c.args.text.now) c.loop-tree.values.items c.args.trees.now c.loop-tree.tree-index c.tree-item.result c.in_ok-value.value _ _ c.loop-tree.invariant c.loop-tree-test.true c.tree-item.is c.in_ok-value.ensures c.in_ok-push.ensures.items

pub returns : goal.returns
returns c = each_ends (value c.args.text.now) c.loop-tree.values.items c.args.trees.now c.loop-tree.tree-index _ c.loop-tree.invariant c.loop-tree-test.false ∙ ap Ok (sym c.from_vec.ensures)

pub returns-in_err-value : goal.returns-in_err-value
returns-in_err-value c =
    each_fails (value c.args.text.now) c.loop-tree.values.items c.args.trees.now c.loop-tree.tree-index c.tree-item.result c.in_err-value.field-0.0 _ c.from_residual-in_err-value.result c.loop-tree.invariant c.loop-tree-test.true c.tree-item.is
    c.in_err-value.ensures c.from_residual-in_err-value.ensures.1
