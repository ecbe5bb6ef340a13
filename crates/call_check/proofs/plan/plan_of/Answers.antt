use Rattle.std.proofs.Common.{◌≡◌, ℕ, List, refl, subst}
use Rattle.answer_text.specs.Lines.{error_text}
use Rattle.call_words.specs.declared.status.Status.{Status}
use Rattle.call_check.specs.Calls.{IsJudged, IsRefusal}
use Rattle.call_check.proofs.plan.plan_of.Goals as goal

pub returns-in-Ok-Refused-clause-plan : goal.returns-in-Ok-Refused-clause-plan
returns-in-Ok-Refused-clause-plan c =
    let arm = c.in-Ok-Refused in
    let both = subst (λ (bytes : List ℕ). IsRefusal bytes arm.refusal × (arm.line.items ≡ error_text arm.refusal)) c.as_slice.ensures.value (rw arm.field-0-is at arm.ensures) in
    (both.0, refl, both.1)

pub returns-in-Ok-Valid-clause-plan : goal.returns-in-Ok-Valid-clause-plan
returns-in-Ok-Valid-clause-plan c =
    let arm = c.in-Ok-Valid in
    (subst (λ (bytes : List ℕ). IsJudged c.args.nodes bytes Status.Answered arm.text.items) c.as_slice.ensures.value (rw arm.field-0-is at arm.ensures), refl)

pub returns-in-Ok-Wrong-clause-plan : goal.returns-in-Ok-Wrong-clause-plan
returns-in-Ok-Wrong-clause-plan c =
    let arm = c.in-Ok-Wrong in
    (subst (λ (bytes : List ℕ). IsJudged c.args.nodes bytes Status.Wrong arm.text.items) c.as_slice.ensures.value (rw arm.field-0-is at arm.ensures), refl)

pub returns-in-Ok-NotShown-clause-plan : goal.returns-in-Ok-NotShown-clause-plan
returns-in-Ok-NotShown-clause-plan c =
    let arm = c.in-Ok-NotShown in
    (subst (λ (bytes : List ℕ). IsJudged c.args.nodes bytes Status.NotShown arm.text.items) c.as_slice.ensures.value (rw arm.field-0-is at arm.ensures), refl)
