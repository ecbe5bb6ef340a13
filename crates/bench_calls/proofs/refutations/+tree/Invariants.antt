use Rattle.bench_calls.proofs.refutations.+tree.Given as goal

abbrev pub decreases-tree : goal.decreases-tree
decreases-tree l = l.depth
