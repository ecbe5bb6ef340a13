use Rattle.std.proofs.Common.{◌≡◌, ◌<◌, ◌≤◌, length, refl, ap, ◌∙◌, arith}
use Rattle.obligation_tree.specs.Nodes.{node_at, obligation_in}
use Rattle.step_rules.specs.Standing.{Standing}
use Rattle.step_rules.specs.Taken.{record_of}
use Rattle.step_rules.specs.machinery.Told.{unholding_told}
use Rattle.step_rules.proofs.OnLemmas.{past-told, told-asked}
use Rattle.step_rules.proofs.fact_step.rules.told_at.Goals as goal

pub returns-then-id-count : goal.returns-then-id-count
returns-then-id-count c =
    let nodes = c.args.parts.now.tree.nodes in
    let n = c.args.id in
    let same : length c.parts.inside.tree.now.nodes ≡ length nodes = ap (λ (b : Standing). length b.tree.nodes) c.parts.view_is in
    let past : length nodes ≤ n = omega (arith, same) in
    past-told nodes n (unholding_told c.args.parts.now.system (record_of c.args.step.now) c.args.id) past

pub returns : goal.returns
returns c =
    let nodes = c.args.parts.now.tree.nodes in
    let n = c.args.id in
    let same : length c.parts.inside.tree.now.nodes ≡ length nodes = ap (λ (b : Standing). length b.tree.nodes) c.parts.view_is in
    let within : n < length nodes = omega (arith, same) in
    let there = c.obligation.ensures ∙ ap (λ (b : Standing). obligation_in (node_at b.tree.nodes n)) c.parts.view_is in
    c.in_ok-by.ensures ∙ told-asked nodes n (unholding_told c.args.parts.now.system (record_of c.args.step.now) c.args.id) c.obligation.result.now within there (λ x closed stalled. refl)
