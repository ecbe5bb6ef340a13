use Rattle.std.proofs.Common.{◌∙◌, ap, sym, take, drop, reverse, ◌++◌, List}
use Rattle.refutation_trees.specs.declared.tree.Refutation.{Refutation}
use Rattle.lia_close.proofs.StackLemmas.{drop-one, take-one}
use Rattle.lia_close.proofs.written.last_of.Goals as goal

pub off-preserved : goal.off-preserved
off-preserved c =
    let all : List Refutation = reverse c.args.trees.now.items in
    let n = c.off.counter in
    record {
      last = c.in_ok-take_off.ensures.last ∙ ap (λ (ts : List Refutation). ts ++ take 1 (reverse c.off.trees.items)) c.off.invariant.last ∙ ap (λ (ts : List Refutation). take n all ++ take 1 ts) c.off.invariant.rest ∙ sym (take-one n all);
      rest = c.in_ok-take_off.ensures.rest ∙ ap (drop 1) c.off.invariant.rest ∙ sym (drop-one n all);
    }
