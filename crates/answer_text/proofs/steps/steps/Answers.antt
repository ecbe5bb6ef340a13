use Rattle.std.proofs.Common.{ap, sym, ◌∙◌}
use Rattle.std.specs.Prelude.{Ok}
use Rattle.answer_text.specs.Reading.{step}
use Rattle.answer_text.proofs.EachLemmas.{each_goes_on, each_ends, each_fails}
use Rattle.answer_text.proofs.steps.steps.Goals as goal

pub loop-tree-preserved : goal.loop-tree-preserved
loop-tree-preserved c =
    each_goes_on (step c.args.text.now c.args.declared.now) c.loop-tree.lines.items c.args.trees.now c.loop-tree.tree-index c.tree-item.result c.in_ok-line.line _ _ c.loop-tree.invariant c.loop-tree-test.true c.tree-item.is c.in_ok-line.ensures c.in_ok-push.ensures.items

pub returns : goal.returns
returns c = each_ends (step c.args.text.now c.args.declared.now) c.loop-tree.lines.items c.args.trees.now c.loop-tree.tree-index _ c.loop-tree.invariant c.loop-tree-test.false ∙ ap Ok (sym c.from_vec.ensures)

pub returns-in_err-line : goal.returns-in_err-line
returns-in_err-line c =
    each_fails (step c.args.text.now c.args.declared.now) c.loop-tree.lines.items c.args.trees.now c.loop-tree.tree-index c.tree-item.result c.in_err-line.field-0.0 _ c.from_residual-in_err-line.result c.loop-tree.invariant c.loop-tree-test.true c.tree-item.is
    c.in_err-line.ensures c.from_residual-in_err-line.ensures.1
