use Rattle.std.proofs.Common.{◌∙◌}
use Rattle.refutation_trees.specs.KeptEvidence.{given_form}
use Rattle.step_rules.specs.Views.{fresh_of}
use Rattle.step_rules.proofs.AskLemmas.{asked-found, asked-missing}
use Rattle.step_rules.proofs.stall_step.rules.is_asked.Goals as goal

pub returns-in-Some : goal.returns-in-Some
returns-in-Some c =
    let b = c.args.parts.now in
    let step = c.args.step.now in
    let found = rw c.in-Some.is at c.in_ok-query.ensures in
    c.is_of.ensures ∙ asked-found b.system step.clause c.args.clause.now (fresh_of c.args.obligation.now) step.used (given_form step.evidence) c.in-Some.query c.in_ok-goal.goal c.requires.there c.in_ok-goal.ensures c.requires.cube found

pub returns : goal.returns
returns c =
    let b = c.args.parts.now in
    let step = c.args.step.now in
    let found = rw c.in-None.is at c.in_ok-query.ensures in
    asked-missing b.system step.clause c.args.clause.now (fresh_of c.args.obligation.now) step.used (given_form step.evidence) c.in_ok-goal.goal c.requires.there c.in_ok-goal.ensures c.requires.cube found
    c.evidence_has_room.ensures c.used_are_short.ensures c.requires.legal c.requires.head c.requires.asked c.requires.places
