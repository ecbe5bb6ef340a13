use Rattle.std.proofs.Common.{sym, subst, arith, rules}
use Rattle.sexp_read.specs.Trees.{IsTree, AreTrees, none}
use Rattle.sexp_read.proofs.Reaches.{one_more, tree_ahead}
use Rattle.sexp_read.proofs.commands.read_commands.Goals as goal

pub loop-trees-init : goal.loop-trees-init
loop-trees-init c = record { read = subst (λ ts. AreTrees c.args.text.now 0 0 ts 0) (sym c.new-trees.ensures.items) (none 0 0); within = omega arith }

pub loop-trees-smaller : goal.loop-trees-smaller
loop-trees-smaller c =
    let ahead = tree_ahead c.args.text.now 0 c.loop-trees.at c.in-Tree.tree c.in-Tree.end (search rules) in
    omega (arith, ahead.0, ahead.1)

pub loop-trees-preserved : goal.loop-trees-preserved
loop-trees-preserved c =
    let tree : IsTree c.args.text.now 0 c.loop-trees.at c.in-Tree.tree c.in-Tree.end = search rules in
    let ahead = tree_ahead c.args.text.now 0 c.loop-trees.at c.in-Tree.tree c.in-Tree.end tree in
    record {
      read = subst (λ ts. AreTrees c.args.text.now 0 0 ts c.in-Tree.end) (sym c.in_ok-push-in-Tree.ensures.items)
          (one_more c.args.text.now 0 0 c.loop-trees.trees.items c.loop-trees.at c.in-Tree.tree c.in-Tree.end c.loop-trees.invariant.read tree);
      within = ahead.1;
    }
