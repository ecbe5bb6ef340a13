use Rattle.std.proofs.Common.{◌<◌, length, ap, sym, ◌∙◌, arith, ◌≡◌}
use Rattle.obligation_tree.specs.declared.obligation.Obligation.{Obligation as Asked}
use Rattle.book_rules.specs.LemmaRules.{closes}
use Rattle.book_rules.specs.declared.by.By.TheVariants.{Obligation}
use Rattle.step_rules.specs.Taken.{learnt_of}
use Rattle.step_rules.specs.Views.{fresh_of}
use Rattle.step_rules.proofs.OnLemmas.{fails, passes}
use Rattle.obligation_tree.specs.Nodes.{node_at, obligation_in}
use Rattle.step_rules.specs.Standing.{Standing}
use Rattle.step_rules.proofs.lemma_step.rules.lemma_rule_14_target_point_is_excluded.Goals as goal

pub returns-then-closes : goal.returns-then-closes
returns-then-closes c =
    let nodes = c.args.parts.now.tree.nodes in
    let step = c.args.step.now in
    let same : length c.parts.inside.tree.now.nodes ≡ length nodes = ap (λ (s : Standing). length s.tree.nodes) c.parts.view_is in
    let within : step.target < length nodes = omega (arith, same) in
    passes nodes step.target (closes (learnt_of step) step.level) (Obligation step.target) within (ap (λ (o : Asked). closes (learnt_of step) step.level (fresh_of o)) (sym (c.obligation.ensures ∙ ap (λ (s : Standing). obligation_in (node_at s.tree.nodes step.target)) c.parts.view_is)) ∙ sym c.closes.ensures ∙ c.if-closes.true)

pub returns : goal.returns
returns c =
    let nodes = c.args.parts.now.tree.nodes in
    let step = c.args.step.now in
    let same : length c.parts.inside.tree.now.nodes ≡ length nodes = ap (λ (s : Standing). length s.tree.nodes) c.parts.view_is in
    let within : step.target < length nodes = omega (arith, same) in
    fails nodes step.target (closes (learnt_of step) step.level) (Obligation step.target) within (ap (λ (o : Asked). closes (learnt_of step) step.level (fresh_of o)) (sym (c.obligation.ensures ∙ ap (λ (s : Standing). obligation_in (node_at s.tree.nodes step.target)) c.parts.view_is)) ∙ sym c.closes.ensures ∙ c.if-closes.false)
