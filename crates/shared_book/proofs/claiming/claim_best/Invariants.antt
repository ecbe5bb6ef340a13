use Rattle.std.proofs.Common.{◌≡◌, take, true}
use Rattle.std.specs.List.{list_all}
use Rattle.obligation_tree.specs.Nodes.{leaf_numbers}
use Rattle.search_strategy.specs.machinery.Choosing.{is_behind}
use Rattle.shared_book.specs.machinery.Choices.{IsChosen, is_out}
use Rattle.shared_book.proofs.claiming.claim_best.Given as goal

-- the first so far is claimed: none that was looked at and isn't out is before it
abbrev pub invariant-loop-id : goal.invariant-loop-id
invariant-loop-id l = record {
  chosen : IsChosen l.snapshot l.worker l.best l.book;
  behind : list_all (is_behind l.snapshot.tree.nodes (is_out l.snapshot l.worker) l.best) (take l.id-index (leaf_numbers l.snapshot.tree.nodes)) ≡ true;
}
