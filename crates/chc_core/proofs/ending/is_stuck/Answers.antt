use Rattle.std.proofs.Common.{◌≡◌, ℕ, ◌+◌, ◌<◌, ◌≤◌, List, length, get_or, false, rules, ap, ap₂, sym, ◌∙◌, subst}
use Rattle.obligation_tree.specs.Nodes.{leaf_numbers, node_at}
use Rattle.step_rules.specs.Views.{facts_of}
use Rattle.chc_core.specs.Contents.{Contents}
use Rattle.chc_core.proofs.BookLemmas.{rooted}
use Rattle.chc_core.proofs.EndLemmas.{all-fails, all-past, leaves-there, stuck_is}
use Rattle.chc_core.proofs.ending.is_stuck.Goals as goal

pub is_stalled-requires : goal.is_stalled-requires
is_stalled-requires c =
    let nodes = c.parts.inside.tree.nodes in
    let i = c.loop-id.id-index in
    let within = subst (λ (xs : List ℕ). i < length xs) c.live_leaves-id-items.ensures c.loop-id-test.true in
    subst (λ (xs : List ℕ). get_or xs i 0 < length nodes) (sym c.live_leaves-id-items.ensures) (leaves-there nodes i 0 within)

pub returns-then-not-is_stalled : goal.returns-then-not-is_stalled
returns-then-not-is_stalled c =
    let b = c.args.parts.now in
    let nodes = b.tree.nodes in
    let i = c.loop-id.id-index in
    let xs = c.live_leaves-id-items.result.now in
    let leaves : xs ≡ leaf_numbers nodes = c.live_leaves-id-items.ensures ∙ ap (λ (x : Contents). leaf_numbers x.tree.nodes) c.parts.view_is in
    let within : i < length (leaf_numbers nodes) = subst (λ (ys : List ℕ). i < length ys) leaves c.loop-id-test.true in
    let at : c.is_stalled.result ≡ (node_at nodes (get_or (leaf_numbers nodes) i 0)).stalled = c.is_stalled.ensures ∙ ap₂ (λ (x : Contents) (ys : List ℕ). (node_at x.tree.nodes (get_or ys i 0)).stalled) c.parts.view_is leaves in
    let isnt : c.is_stalled.result ≡ false = search rules in
    sym (all-fails (λ n. (node_at nodes n).stalled) (leaf_numbers nodes) i within (sym at ∙ isnt)) ∙ c.loop-id.invariant ∙ stuck_is (b.level + 1) (facts_of b.facts) nodes (rooted b c.requires)

pub returns : goal.returns
returns c =
    let b = c.args.parts.now in
    let nodes = b.tree.nodes in
    let i = c.loop-id.id-index in
    let xs = c.live_leaves-id-items.result.now in
    let leaves : xs ≡ leaf_numbers nodes = c.live_leaves-id-items.ensures ∙ ap (λ (x : Contents). leaf_numbers x.tree.nodes) c.parts.view_is in
    let past : length (leaf_numbers nodes) ≤ i = subst (λ (ys : List ℕ). length ys ≤ i) leaves c.loop-id-test.false in
    sym (all-past (λ n. (node_at nodes n).stalled) (leaf_numbers nodes) i past) ∙ c.loop-id.invariant ∙ stuck_is (b.level + 1) (facts_of b.facts) nodes (rooted b c.requires)
