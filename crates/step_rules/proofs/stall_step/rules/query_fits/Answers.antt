use Rattle.std.proofs.Common.{not, ◌||◌, sym, ◌∙◌}
use Rattle.std.specs.Prelude.{◌==◌}
use Rattle.refutation_trees.specs.KeptEvidence.{given_form}
use Rattle.book_rules.specs.Proofs.{is_empty, is_head}
use Rattle.book_rules.specs.Queries.{query}
use Rattle.book_rules.specs.Same.{same_form}
use Rattle.book_rules.specs.StallRules.{has_used_atoms}
use Rattle.step_rules.specs.Tokens.{all_used}
use Rattle.step_rules.proofs.AskLemmas.{fitting, headless, not-false, not-true, too-low}
use Rattle.step_rules.proofs.stall_step.rules.query_fits.Goals as goal

pub returns-then-not-is_head : goal.returns-then-not-is_head
returns-then-not-is_head c =
    let o = c.args.obligation.now in
    let step = c.args.step.now in
    let clause = c.args.clause.now in
    headless (has_used_atoms clause (all_used step.used)) (is_head o.pred clause.head) (same_form (given_form step.evidence) (query clause o.cube (all_used step.used))) (not (o.level == 1) || is_empty clause.atoms) (sym c.is_head.ensures ∙ c.if-not-is_head.true)

pub returns-then-is_too_low : goal.returns-then-is_too_low
returns-then-is_too_low c =
    let o = c.args.obligation.now in
    let step = c.args.step.now in
    let clause = c.args.clause.now in
    too-low (has_used_atoms clause (all_used step.used)) (is_head o.pred clause.head) (same_form (given_form step.evidence) (query clause o.cube (all_used step.used))) (not (o.level == 1) || is_empty clause.atoms) (not-true (not (o.level == 1) || is_empty clause.atoms) (sym c.is_too_low.ensures ∙ c.if-is_too_low.true))

pub is_asked-requires-clause-head : goal.is_asked-requires-clause-head
is_asked-requires-clause-head c = sym c.is_head.ensures ∙ c.if-not-is_head.false

pub returns : goal.returns
returns c =
    let o = c.args.obligation.now in
    let step = c.args.step.now in
    let clause = c.args.clause.now in
    c.in_ok-is.ensures ∙ fitting (has_used_atoms clause (all_used step.used)) (is_head o.pred clause.head) (same_form (given_form step.evidence) (query clause o.cube (all_used step.used))) (not (o.level == 1) || is_empty clause.atoms) (sym c.is_head.ensures ∙ c.if-not-is_head.false) (not-false (not (o.level == 1) || is_empty clause.atoms) (sym c.is_too_low.ensures ∙ c.if-is_too_low.false))
