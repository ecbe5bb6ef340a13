use Rattle.std.proofs.Common.{◌<◌, ◌≤◌, length, refl, ◌∙◌, arith, ◌≡◌, ap}
use Rattle.step_rules.specs.Taken.{open_of}
use Rattle.step_rules.specs.machinery.Told.{low_told}
use Rattle.step_rules.proofs.OnLemmas.{past-told, told-asked}
use Rattle.obligation_tree.specs.Nodes.{node_at, obligation_in}
use Rattle.step_rules.specs.Standing.{Standing}
use Rattle.step_rules.proofs.open_step.rules.open_rule_2_parent_level_is_at_least_2.Goals as goal

pub returns-then-step-count : goal.returns-then-step-count
returns-then-step-count c =
    let nodes = c.args.parts.now.tree.nodes in
    let n = c.args.step.now.parent in
    let same : length c.parts.inside.tree.now.nodes ≡ length nodes = ap (λ (s : Standing). length s.tree.nodes) c.parts.view_is in
    let past : length nodes ≤ n = omega (arith, same) in
    past-told nodes n (low_told (open_of c.args.step.now)) past

pub returns : goal.returns
returns c =
    let nodes = c.args.parts.now.tree.nodes in
    let n = c.args.step.now.parent in
    let same : length c.parts.inside.tree.now.nodes ≡ length nodes = ap (λ (s : Standing). length s.tree.nodes) c.parts.view_is in
    let within : n < length nodes = omega (arith, same) in
    c.told_of_level.ensures ∙ told-asked nodes n (low_told (open_of c.args.step.now)) c.obligation.result.now within (c.obligation.ensures ∙ ap (λ (s : Standing). obligation_in (node_at s.tree.nodes n)) c.parts.view_is) (λ x closed stalled. refl)
