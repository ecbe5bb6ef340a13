use Rattle.std.proofs.Common.{◌<◌, ◌≤◌, length, Bool, ap, ◌∙◌, arith, cond, Some, None, ◌≡◌}
use Rattle.std.specs.Prelude.{Option}
use Rattle.book_rules.specs.declared.by.By.{By}
use Rattle.book_rules.specs.declared.by.By.TheVariants.{Obligation}
use Rattle.step_rules.specs.Taken.{stall_of}
use Rattle.step_rules.specs.machinery.Told.{stalled_told}
use Rattle.step_rules.proofs.OnLemmas.{past-told, told-there}
use Rattle.obligation_tree.specs.Nodes.{is_stalled_in, node_at}
use Rattle.step_rules.specs.Standing.{Standing}
use Rattle.step_rules.proofs.stall_step.rules.stall_rule_54_target_is_not_stalled.Goals as goal

pub returns-then-step-count : goal.returns-then-step-count
returns-then-step-count c =
    let nodes = c.args.parts.now.tree.nodes in
    let n = c.args.step.now.target in
    let same : length c.parts.inside.tree.now.nodes ≡ length nodes = ap (λ (s : Standing). length s.tree.nodes) c.parts.view_is in
    let past : length nodes ≤ n = omega (arith, same) in
    past-told nodes n (stalled_told (stall_of c.args.step.now)) past

pub returns : goal.returns
returns c =
    let nodes = c.args.parts.now.tree.nodes in
    let n = c.args.step.now.target in
    let same : length c.parts.inside.tree.now.nodes ≡ length nodes = ap (λ (s : Standing). length s.tree.nodes) c.parts.view_is in
    let within : n < length nodes = omega (arith, same) in
    c.told_of_mark.ensures ∙ ap (λ (b : Bool). cond {A = Option By} b (Some (Obligation n)) None) (c.is_stalled.ensures ∙ ap (λ (s : Standing). is_stalled_in (node_at s.tree.nodes n)) c.parts.view_is) ∙ told-there nodes n (stalled_told (stall_of c.args.step.now)) within
