use Rattle.std.proofs.Common.{◌≡◌, take, true}
use Rattle.std.specs.Prelude.{IfSome}
use Rattle.std.specs.List.{list_all}
use Rattle.obligation_tree.specs.Nodes.{leaf_numbers}
use Rattle.search_strategy.specs.machinery.Choosing.{is_behind}
use Rattle.book_loop.specs.machinery.Jobs.{IsJob, is_stalled}
use Rattle.book_loop.proofs.jobs.best_leaf.Given as goal

-- the first so far: none that was looked at is before it
abbrev pub invariant-loop-id : goal.invariant-loop-id
invariant-loop-id l = record {
  job : IfSome l.best (IsJob l.tree.nodes);
  behind : list_all (is_behind l.tree.nodes (is_stalled l.tree.nodes) l.best) (take l.id-index (leaf_numbers l.tree.nodes)) ≡ true;
}
