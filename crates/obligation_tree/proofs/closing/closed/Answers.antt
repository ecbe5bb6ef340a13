use Rattle.std.proofs.Common.{arith, ◌≡◌, List, [], filter, length, not, ap, sym, ◌∙◌}
use Rattle.std.specs.List.{list_any}
use Rattle.obligation_tree.specs.Nodes.{is_child_of, is_live_at, live_numbers}
use Rattle.obligation_tree.specs.Closing.{closing, hits}
use Rattle.obligation_tree.specs.Shape.{IsTree}
use Rattle.obligation_tree.specs.machinery.Passes.{IsKept, levelled}
use Rattle.obligation_tree.specs.declared.node.Node.{Node}
use Rattle.obligation_tree.proofs.NumberLemmas.{kept-below}
use Rattle.obligation_tree.proofs.ClosingLemmas.{after-is, kept-levelled, length-closing, live-now, live-parents, pass-now, tree-now}
use Rattle.obligation_tree.proofs.closing.closed.Goals as goal

pub settle_all-requires : goal.settle_all-requires
settle_all-requires c =
    let xs = c.args.nodes.now in
    let is : c.as_slice.result.now ≡ live_numbers xs = c.as_slice.ensures.value ∙ c.requires.live in
    rw (is, c.in_ok-nodes.ensures) (λ k h. (kept-below (is_live_at xs) (length xs) k h).0)

pub live_among-requires : goal.live_among-requires
live_among-requires c =
    let xs = c.args.nodes.now in
    let now : c.settle_all.new.nodes ≡ closing (hits c.args.cause) c.args.entry [] xs = pass-now c.args.cause c.args.entry xs c.args.index.now c.in_ok-nodes.nodes c.settle_all.new.nodes c.as_slice.result.now c.requires c.in_ok-nodes.ensures c.as_slice.ensures.value c.in_ok-settle_all.ensures in
    let long : length c.settle_all.new.nodes ≡ length xs = ap (λ (ys : List Node). length ys) now ∙ length-closing (hits c.args.cause) c.args.entry [] xs ∙ omega arith in
    let is : c.as_slice-2.result.now ≡ live_numbers xs = c.as_slice-2.ensures.value ∙ c.requires.live in
    rw (is, long) (λ k h. (kept-below (is_live_at xs) (length xs) k h).0)

pub childless-requires-clause-within : goal.childless-requires-clause-within
childless-requires-clause-within c =
    let xs = c.args.nodes.now in
    let zs = c.settle_all.new.nodes in
    let now : zs ≡ closing (hits c.args.cause) c.args.entry [] xs = pass-now c.args.cause c.args.entry xs c.args.index.now c.in_ok-nodes.nodes zs c.as_slice.result.now c.requires c.in_ok-nodes.ensures c.as_slice.ensures.value c.in_ok-settle_all.ensures in
    let is : c.as_slice-3.result.now ≡ live_numbers zs = c.as_slice-3.ensures.value ∙ live-now (hits c.args.cause) c.args.entry xs c.args.index.now zs c.as_slice-2.result.now c.in_ok-live.live.items c.requires now c.as_slice-2.ensures.value c.in_ok-live.ensures in
    rw is (λ k h. (kept-below (is_live_at zs) (length zs) k h).0)

pub childless-requires-clause-parents : goal.childless-requires-clause-parents
childless-requires-clause-parents c =
    let xs = c.args.nodes.now in
    let zs = c.settle_all.new.nodes in
    let now : zs ≡ closing (hits c.args.cause) c.args.entry [] xs = pass-now c.args.cause c.args.entry xs c.args.index.now c.in_ok-nodes.nodes zs c.as_slice.result.now c.requires c.in_ok-nodes.ensures c.as_slice.ensures.value c.in_ok-settle_all.ensures in
    let is : c.as_slice-3.result.now ≡ live_numbers zs = c.as_slice-3.ensures.value ∙ live-now (hits c.args.cause) c.args.entry xs c.args.index.now zs c.as_slice-2.result.now c.in_ok-live.live.items c.requires now c.as_slice-2.ensures.value c.in_ok-live.ensures in
    let tree : IsTree zs = tree-now (hits c.args.cause) c.args.entry xs zs c.requires.tree now in
    rw is (λ k h. live-parents zs _ tree (kept-below (is_live_at zs) (length zs) k h).1)

pub level_root-requires : goal.level_root-requires
level_root-requires c =
    let xs = c.args.nodes.now in
    let zs = c.settle_all.new.nodes in
    let now : zs ≡ closing (hits c.args.cause) c.args.entry [] xs = pass-now c.args.cause c.args.entry xs c.args.index.now c.in_ok-nodes.nodes zs c.as_slice.result.now c.requires c.in_ok-nodes.ensures c.as_slice.ensures.value c.in_ok-settle_all.ensures in
    (tree-now (hits c.args.cause) c.args.entry xs zs c.requires.tree now).some

pub returns-clause-nodes : goal.returns-clause-nodes
returns-clause-nodes c =
    let xs = c.args.nodes.now in
    let zs = c.settle_all.new.nodes in
    let now : zs ≡ closing (hits c.args.cause) c.args.entry [] xs = pass-now c.args.cause c.args.entry xs c.args.index.now c.in_ok-nodes.nodes zs c.as_slice.result.now c.requires c.in_ok-nodes.ensures c.as_slice.ensures.value c.in_ok-settle_all.ensures in
    c.in_ok-level_root.ensures ∙ ap (λ (ys : List Node). levelled c.args.cause ys) now ∙ sym (after-is c.args.cause c.args.entry xs)

pub returns-clause-kept : goal.returns-clause-kept
returns-clause-kept c =
    let xs = c.args.nodes.now in
    let zs = c.settle_all.new.nodes in
    let now : zs ≡ closing (hits c.args.cause) c.args.entry [] xs = pass-now c.args.cause c.args.entry xs c.args.index.now c.in_ok-nodes.nodes zs c.as_slice.result.now c.requires c.in_ok-nodes.ensures c.as_slice.ensures.value c.in_ok-settle_all.ensures in
    let live : c.in_ok-live.live.items ≡ live_numbers zs = live-now (hits c.args.cause) c.args.entry xs c.args.index.now zs c.as_slice-2.result.now c.in_ok-live.live.items c.requires now c.as_slice-2.ensures.value c.in_ok-live.ensures in
    let kept : IsKept zs (record { live = c.in_ok-live.live; leaves = c.in_ok-leaves.leaves }) = record {
      tree = tree-now (hits c.args.cause) c.args.entry xs zs c.requires.tree now;
      live = live;
      leaves = c.in_ok-leaves.ensures ∙ ap (λ ns. filter (λ number. not (list_any (is_child_of zs number) ns)) ns) (c.as_slice-3.ensures.value ∙ live);
    } in
    rw c.in_ok-level_root.ensures (kept-levelled c.args.cause zs (record { live = c.in_ok-live.live; leaves = c.in_ok-leaves.leaves }) kept)
