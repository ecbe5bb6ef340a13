use Rattle.std.proofs.Common.{List, ap, ◌∙◌}
use Rattle.std.proofs.lemmas.List.{take_all}
use Rattle.sexp_read.specs.declared.tree.Tree.{Tree}
use Rattle.term_check.specs.Spelling.{sorts_bound}
use Rattle.term_check.proofs.StepLemmas.{sorts_more}
use Rattle.term_check.proofs.binders.sorts_bound.Goals as goal

pub loop-item-preserved : goal.loop-item-preserved
loop-item-preserved c =
    sorts_more c.args.text.now c.args.items.now c.loop-item.item-index c.item-item.result c.sort_bound.result c.loop-item.sorts.items c.push.new.self.items c.loop-item-test.true c.item-item.is
    c.sort_bound.ensures c.in_ok-push.ensures.items c.loop-item.invariant

pub returns : goal.returns
returns c = c.from_vec.ensures ∙ c.loop-item.invariant ∙ ap (λ (ts : List Tree). sorts_bound c.args.text.now ts) (take_all c.loop-item.item-index c.args.items.now c.loop-item-test.false)
