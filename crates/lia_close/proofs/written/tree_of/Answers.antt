use Rattle.std.proofs.Common.{◌∙◌, ap, sym, reverse, List}
use Rattle.refutation_trees.specs.declared.tree.Refutation.{Refutation}
use Rattle.lia_close.specs.Written.{assembled}
use Rattle.lia_close.proofs.WrittenLemmas.{assembled-push}
use Rattle.lia_close.proofs.written.tree_of.Goals as goal

pub back-preserved : goal.back-preserved
back-preserved c =
    ap (λ (ts : List Refutation). assembled c.pop.new.self.items ts) c.in_ok-put.ensures
    ∙ sym (assembled-push c.pop.new.self.items c.back.steps.items c.in-Some.step (reverse c.back.trees.items) c.in-Some.ensures.items) ∙ c.back.invariant
