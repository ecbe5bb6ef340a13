use Rattle.std.proofs.Common.{◌≡◌, ℕ, ◌+◌, ◌<◌, ◌≤◌, List, length, take, get_or, true, sym, subst}
use Rattle.std.specs.Prelude.{Option}
use Rattle.std.specs.List.{list_all}
use Rattle.obligation_tree.specs.Nodes.{leaf_numbers, IsLiveLeaf}
use Rattle.search_strategy.specs.machinery.Choosing.{is_behind, next_first}
use Rattle.search_strategy.proofs.JobLemmas.{all-taken, behind-more, leaf_at}
use Rattle.book_loop.specs.machinery.Jobs.{AreStalled, is_stalled}
use Rattle.book_loop.proofs.JobLemmas.{first-leaf}
use Rattle.book_loop.proofs.jobs.best_leaf.Goals as goal

pub with_leaf-best-requires-clause-leaf : goal.with_leaf-best-requires-clause-leaf
with_leaf-best-requires-clause-leaf c =
    let nodes = c.args.tree.now.nodes in
    let i = c.loop-id.id-index in
    let within = subst (λ (xs : List ℕ). i < length xs) c.live_leaves-id-items.ensures c.loop-id-test.true in
    subst (λ (xs : List ℕ). IsLiveLeaf nodes (get_or xs i 0)) (sym c.live_leaves-id-items.ensures) (leaf_at nodes i within)

pub loop-id-preserved : goal.loop-id-preserved
loop-id-preserved c =
    let nodes = c.args.tree.now.nodes in
    let out = is_stalled nodes in
    let i = c.loop-id.id-index in
    let leaves = c.live_leaves-id-items.ensures in
    let within = subst (λ (xs : List ℕ). i < length xs) leaves c.loop-id-test.true in
    let is = subst (λ (xs : List ℕ). c.with_leaf-best.result ≡ next_first nodes out c.loop-id.best (get_or xs i 0)) leaves c.with_leaf-best.ensures.is in
    record {
      job = c.with_leaf-best.ensures.job;
      behind = subst (λ (best : Option ℕ). list_all (is_behind nodes out best) (take (i + 1) (leaf_numbers nodes)) ≡ true) (sym is)
          (behind-more nodes out (leaf_numbers nodes) i c.loop-id.best within c.loop-id.invariant.behind);
    }

pub returns-clause-first : goal.returns-clause-first
returns-clause-first c =
    let nodes = c.args.tree.now.nodes in
    let i = c.loop-id.id-index in
    let past : length (leaf_numbers nodes) ≤ i = subst (λ (xs : List ℕ). length xs ≤ i) c.live_leaves-id-items.ensures c.loop-id-test.false in
    first-leaf nodes c.loop-id.best c.loop-id.invariant.job (all-taken (is_behind nodes (is_stalled nodes) c.loop-id.best) (leaf_numbers nodes) i past c.loop-id.invariant.behind)

pub returns-clause-none : goal.returns-clause-none
returns-clause-none c = λ isnt.
    let nodes = c.args.tree.now.nodes in
    let out = is_stalled nodes in
    let i = c.loop-id.id-index in
    let past : length (leaf_numbers nodes) ≤ i = subst (λ (xs : List ℕ). length xs ≤ i) c.live_leaves-id-items.ensures c.loop-id-test.false in
    subst (λ (best : Option ℕ). list_all (is_behind nodes out best) (leaf_numbers nodes) ≡ true) isnt
    (all-taken (is_behind nodes out c.loop-id.best) (leaf_numbers nodes) i past c.loop-id.invariant.behind)
