use Rattle.std.proofs.Common.{◌≡◌, ℕ, ◌+◌, ◌<◌, ◌≤◌, List, length, take, get_or, refl, sym, subst, true}
use Rattle.std.specs.Prelude.{Option}
use Rattle.std.specs.List.{list_all}
use Rattle.obligation_tree.specs.Nodes.{leaf_numbers, IsLiveLeaf}
use Rattle.search_strategy.specs.machinery.Choosing.{is_behind, next_first}
use Rattle.search_strategy.proofs.JobLemmas.{all-taken, behind-more, leaf_at}
use Rattle.shared_book.specs.machinery.Choices.{is_out}
use Rattle.shared_book.proofs.ChoiceLemmas.{all_held, first_free}
use Rattle.shared_book.proofs.claiming.claim_best.Goals as goal

pub loop-id-init : goal.loop-id-init
loop-id-init c = record { chosen = c.requires.same; behind = refl }

pub with_leaf-best-requires-clause-chosen : goal.with_leaf-best-requires-clause-chosen
with_leaf-best-requires-clause-chosen c = c.loop-id.invariant.chosen

pub with_leaf-best-requires-clause-leaf : goal.with_leaf-best-requires-clause-leaf
with_leaf-best-requires-clause-leaf c =
    let nodes = c.args.snapshot.now.tree.nodes in
    let i = c.loop-id.id-index in
    let within = subst (λ (xs : List ℕ). i < length xs) c.leaves_of-id-items.ensures c.loop-id-test.true in
    subst (λ (xs : List ℕ). IsLiveLeaf nodes (get_or xs i 0)) (sym c.leaves_of-id-items.ensures) (leaf_at nodes i within)

pub loop-id-preserved : goal.loop-id-preserved
loop-id-preserved c =
    let b = c.args.snapshot.now in
    let nodes = b.tree.nodes in
    let out = is_out b c.args.worker in
    let i = c.loop-id.id-index in
    let leaves = c.leaves_of-id-items.ensures in
    let within = subst (λ (xs : List ℕ). i < length xs) leaves c.loop-id-test.true in
    let is = subst (λ (xs : List ℕ). c.with_leaf-best.result ≡ next_first nodes out c.loop-id.best (get_or xs i 0)) leaves c.with_leaf-best.ensures.is in
    record {
      chosen = c.with_leaf-best.ensures.chosen;
      behind = subst (λ (best : Option ℕ). list_all (is_behind nodes out best) (take (i + 1) (leaf_numbers nodes)) ≡ true) (sym is)
          (behind-more nodes out (leaf_numbers nodes) i c.loop-id.best within c.loop-id.invariant.behind);
    }

pub returns-clause-chosen : goal.returns-clause-chosen
returns-clause-chosen c = c.loop-id.invariant.chosen

pub returns-clause-first : goal.returns-clause-first
returns-clause-first c =
    let b = c.args.snapshot.now in
    let leaves = leaf_numbers b.tree.nodes in
    let past : length leaves ≤ c.loop-id.id-index = subst (λ (xs : List ℕ). length xs ≤ c.loop-id.id-index) c.leaves_of-id-items.ensures c.loop-id-test.false in
    first_free b c.args.worker c.loop-id.best c.loop-id.book c.loop-id.invariant.chosen
    (all-taken (is_behind b.tree.nodes (is_out b c.args.worker) c.loop-id.best) leaves c.loop-id.id-index past c.loop-id.invariant.behind)

pub returns-clause-none : goal.returns-clause-none
returns-clause-none c = λ isnt.
    let b = c.args.snapshot.now in
    let out = is_out b c.args.worker in
    let leaves = leaf_numbers b.tree.nodes in
    let past : length leaves ≤ c.loop-id.id-index = subst (λ (xs : List ℕ). length xs ≤ c.loop-id.id-index) c.leaves_of-id-items.ensures c.loop-id-test.false in
    all_held b c.args.worker
    (subst (λ (best : Option ℕ). list_all (is_behind b.tree.nodes out best) leaves ≡ true) isnt
    (all-taken (is_behind b.tree.nodes out c.loop-id.best) leaves c.loop-id.id-index past c.loop-id.invariant.behind))
