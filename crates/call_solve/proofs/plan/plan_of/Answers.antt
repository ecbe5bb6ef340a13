use Rattle.std.proofs.Common.{◌≡◌, ℕ, List, refl, subst}
use Rattle.answer_text.specs.Lines.{error_text}
use Rattle.call_solve.specs.Clauses.{IsInputRefused}
use Rattle.call_solve.specs.Headline.{AreCounts, IsAnswered, IsBookFor}
use Rattle.call_solve.proofs.plan.plan_of.Goals as goal

pub returns-in-Ok-Refused-clause-plan : goal.returns-in-Ok-Refused-clause-plan
returns-in-Ok-Refused-clause-plan g c =
    let arm = c.in-Ok-Refused in
    let both = subst (λ (bytes : List ℕ). IsInputRefused bytes arm.refusal × (arm.line.items ≡ error_text arm.refusal)) c.as_slice.ensures.value (rw arm.field-0-is at arm.ensures) in
    (both.0, refl, both.1)

pub returns-in-Ok-Answered-clause-plan : goal.returns-in-Ok-Answered-clause-plan
returns-in-Ok-Answered-clause-plan g c =
    let arm = c.in-Ok-Answered in
    let both = subst (λ (bytes : List ℕ). IsAnswered c.args.limits bytes arm.book arm.text.items × AreCounts c.args.limits arm.book arm.counts.items) c.as_slice.ensures.value
    (rw arm.field-0-is at arm.ensures) in
    (both.0, refl, both.1)

pub returns-in-Ok-Unfinished-clause-plan : goal.returns-in-Ok-Unfinished-clause-plan
returns-in-Ok-Unfinished-clause-plan g c =
    let arm = c.in-Ok-Unfinished in
    let both = subst (λ (bytes : List ℕ). IsBookFor c.args.limits bytes arm.book × AreCounts c.args.limits arm.book arm.counts.items) c.as_slice.ensures.value (rw arm.field-0-is at arm.ensures) in
    (both.0, refl, both.1)
