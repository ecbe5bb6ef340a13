use Rattle.std.proofs.Common.{◌<◌, ◌≤◌, length, refl, ◌∙◌, arith, ◌≡◌, ap}
use Rattle.step_rules.specs.Standing.{Standing, standing_state}
use Rattle.step_rules.specs.Taken.{open_of}
use Rattle.step_rules.specs.machinery.Told.{shut_told}
use Rattle.step_rules.proofs.OnLemmas.{past-told, told-asked}
use Rattle.obligation_tree.specs.Nodes.{node_at, obligation_in}
use Rattle.step_rules.proofs.open_step.rules.open_rule_5_no_lemma_shuts_body_out.Goals as goal

pub returns-then-step-count : goal.returns-then-step-count
returns-then-step-count c =
    let nodes = c.args.parts.now.tree.nodes in
    let n = c.args.step.now.parent in
    let same : length c.parts.inside.tree.now.nodes ≡ length nodes = ap (λ (s : Standing). length s.tree.nodes) c.parts.view_is in
    let past : length nodes ≤ n = omega (arith, same) in
    past-told nodes n (shut_told c.args.parts.now.system (standing_state c.args.parts.now) (open_of c.args.step.now)) past

pub returns : goal.returns
returns c =
    let nodes = c.args.parts.now.tree.nodes in
    let n = c.args.step.now.parent in
    let same : length c.parts.inside.tree.now.nodes ≡ length nodes = ap (λ (s : Standing). length s.tree.nodes) c.parts.view_is in
    let within : n < length nodes = omega (arith, same) in
    c.in_ok-by.ensures ∙ told-asked nodes n (shut_told c.args.parts.now.system (standing_state c.args.parts.now) (open_of c.args.step.now)) c.obligation.result.now within (c.obligation.ensures ∙ ap (λ (s : Standing). obligation_in (node_at s.tree.nodes n)) c.parts.view_is) (λ x closed stalled. refl)
