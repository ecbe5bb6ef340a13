use Rattle.std.proofs.Common.{ap, sym, ◌∙◌}
use Rattle.std.specs.Prelude.{Ok}
use Rattle.answer_text.specs.Reading.{read_numeral}
use Rattle.answer_text.proofs.EachLemmas.{each_goes_on, each_ends, each_fails}
use Rattle.answer_text.proofs.values.numbers.Goals as goal

pub loop-tree-preserved : goal.loop-tree-preserved
loop-tree-preserved c =
    each_goes_on (read_numeral c.args.text.now) c.loop-tree.numbers.items c.args.trees.now c.loop-tree.tree-index c.tree-item.result c.in_ok-number.number _ _ c.loop-tree.invariant c.loop-tree-test.true c.tree-item.is c.in_ok-number.ensures c.in_ok-push.ensures.items

pub returns : goal.returns
returns c = each_ends (read_numeral c.args.text.now) c.loop-tree.numbers.items c.args.trees.now c.loop-tree.tree-index _ c.loop-tree.invariant c.loop-tree-test.false ∙ ap Ok (sym c.from_vec.ensures)

pub returns-in_err-number : goal.returns-in_err-number
returns-in_err-number c =
    each_fails (read_numeral c.args.text.now) c.loop-tree.numbers.items c.args.trees.now c.loop-tree.tree-index c.tree-item.result c.in_err-number.field-0.0 _ c.from_residual-in_err-number.result c.loop-tree.invariant c.loop-tree-test.true c.tree-item.is
    c.in_err-number.ensures c.from_residual-in_err-number.ensures.1
