use Rattle.std.proofs.Common.{◌+◌, ◌<◌, ◌≤◌, length, refl, ◌∙◌, arith, ◌≡◌, ap}
use Rattle.step_rules.specs.Taken.{stall_of}
use Rattle.step_rules.specs.machinery.Told.{unfit_told}
use Rattle.step_rules.proofs.OnLemmas.{past-told, told-asked}
use Rattle.step_rules.proofs.RootLemmas.{bare-asked, fits-asked}
use Rattle.step_rules.specs.Views.{facts_of}
use Rattle.obligation_tree.specs.Nodes.{node_at, obligation_in}
use Rattle.step_rules.specs.Standing.{Standing}
use Rattle.step_rules.proofs.stall_step.rules.stall_rule_52_evidence_fits_target.Goals as goal

pub returns-then-step-count : goal.returns-then-step-count
returns-then-step-count c =
    let nodes = c.args.parts.now.tree.nodes in
    let n = c.args.step.now.target in
    let same : length c.parts.inside.tree.now.nodes ≡ length nodes = ap (λ (s : Standing). length s.tree.nodes) c.parts.view_is in
    let past : length nodes ≤ n = omega (arith, same) in
    past-told nodes n (unfit_told c.args.parts.now.system (stall_of c.args.step.now)) past

pub unfit-requires-clause-cube : goal.unfit-requires-clause-cube
unfit-requires-clause-cube c =
    let b = c.args.parts.now in
    let n = c.args.step.now.target in
    let same : length c.parts.inside.tree.now.nodes ≡ length b.tree.nodes = ap (λ (s : Standing). length s.tree.nodes) c.parts.view_is in
    let within : n < length b.tree.nodes = omega (arith, same) in
    bare-asked (b.level + 1) (facts_of b.facts) b.tree.nodes c.requires.kept.rooted n within c.obligation.result.now (c.obligation.ensures ∙ ap (λ (s : Standing). obligation_in (node_at s.tree.nodes n)) c.parts.view_is)

pub unfit-requires-clause-asked : goal.unfit-requires-clause-asked
unfit-requires-clause-asked c =
    let b = c.args.parts.now in
    let n = c.args.step.now.target in
    let same : length c.parts.inside.tree.now.nodes ≡ length b.tree.nodes = ap (λ (s : Standing). length s.tree.nodes) c.parts.view_is in
    let within : n < length b.tree.nodes = omega (arith, same) in
    fits-asked b.system.preds b.tree.nodes c.requires.kept.over.obligations n within c.obligation.result.now (c.obligation.ensures ∙ ap (λ (s : Standing). obligation_in (node_at s.tree.nodes n)) c.parts.view_is)

pub returns : goal.returns
returns c =
    let nodes = c.args.parts.now.tree.nodes in
    let n = c.args.step.now.target in
    let same : length c.parts.inside.tree.now.nodes ≡ length nodes = ap (λ (s : Standing). length s.tree.nodes) c.parts.view_is in
    let within : n < length nodes = omega (arith, same) in
    c.in_ok-by.ensures ∙ told-asked nodes n (unfit_told c.args.parts.now.system (stall_of c.args.step.now)) c.obligation.result.now within (c.obligation.ensures ∙ ap (λ (s : Standing). obligation_in (node_at s.tree.nodes n)) c.parts.view_is) (λ x closed stalled. refl)
