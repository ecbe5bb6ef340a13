use Rattle.std.proofs.Common.{◌++◌, ℕ, ap, refl, ◌∙◌}
use Rattle.std.specs.Prelude.{Some, None, codes}
use Rattle.answer_text.specs.Lines.{error_text, level_text}
use Rattle.answer_text.specs.declared.answer.UnknownCause.TheVariants.{NoMemory}
use Rattle.book_answers.specs.Wanting.{wanting_text}
use Rattle.call_solve.specs.Headline.IsMeant.{answer, error, memory}
use Rattle.call_solve.proofs.PlanLemmas.{answered_only, answered_system, appended, refused_read, refused_long, written_part}
use Rattle.call_solve.proofs.call.solve_call.Goals.{in-Ok, in-Err, in-Ok-write_all, in-Err-write_all, in-Ok-write_all-4, in-Err-write_all-4}
use Rattle.call_solve.proofs.call.solve_call.Goals as goal

pub returns-in-Answered-clause-refuses_others : goal.returns-in-Answered-clause-refuses_others
returns-in-Answered-clause-refuses_others g c =
    let plan = c.in-Answered.ensures.plan in
    answered_only c.no_script_is_refused.ensures c.args.limits (g.S.Source.left c.args.source.now) c.in-Answered.read.items c.in-Answered.book _ plan.0.book plan.1

pub returns-in-Answered-clause-refuses_shapes : goal.returns-in-Answered-clause-refuses_shapes
returns-in-Answered-clause-refuses_shapes g c =
    let plan = c.in-Answered.ensures.plan in
    answered_system c.args.limits (g.S.Source.left c.args.source.now) c.in-Answered.read.items c.in-Answered.book _ plan.0.book plan.1

pub returns-in-Answered-clause-writes_part : goal.returns-in-Answered-clause-writes_part
returns-in-Answered-clause-writes_part g c = λ four.
    let plan = c.in-Answered.ensures.plan in
    let meant = answer c.in-Answered.book refl plan.0 plan.1 in
    elim c.match-write_all.branch [
      | in-Ok w ↦ absurd (cc (w.status-is, four))
      | in-Err w ↦
          let part = w.in-Err.ensures.err in
          written_part _ _ _ _ _ _ _ _ c.in-Answered.text.items c.as_slice.result.now meant c.as_slice.ensures.value part.0 part.1 part.2
    ]

pub returns-in-Unfinished-clause-writes_part : goal.returns-in-Unfinished-clause-writes_part
returns-in-Unfinished-clause-writes_part g c = λ four.
    let meant = memory refl in
    let same = c.unfinished_lines-length.ensures.text ∙ ap (λ (l : ℕ). codes "unknown\n" ++ level_text l NoMemory) c.level.ensures.is in
    elim c.match-write_all-2.branch [
      | in-Ok-write_all w ↦ absurd (cc (w.status-is, four))
      | in-Err-write_all w ↦
          let part = w.in-Err-write_all.ensures.err in
          written_part _ _ _ _ _ _ _ _ (wanting_text (Some c.in-Unfinished.book)) _ meant same part.0 part.1 part.2
    ]

pub returns-in-Unfinished-clause-memory : goal.returns-in-Unfinished-clause-memory
returns-in-Unfinished-clause-memory g c = λ five.
    let same = c.unfinished_lines-length.ensures.text ∙ ap (λ (l : ℕ). codes "unknown\n" ++ level_text l NoMemory) c.level.ensures.is in
    elim c.match-write_all-2.branch [
      | in-Ok-write_all w ↦ appended (wanting_text (Some c.in-Unfinished.book)) _ (g.K.Sink.held c.args.sink.now) (g.K.Sink.held c.write_all-in-Unfinished.new.sink)
          same w.in-Ok-write_all.ensures.ok
      | in-Err-write_all w ↦ absurd (cc (w.status-is, five))
    ]

pub returns-in-Ok-write_all-2-clause-refused : goal.returns-in-Ok-write_all-2-clause-refused
returns-in-Ok-write_all-2-clause-refused g c =
    let plan = c.in-Refused.ensures.plan in
    let left = g.S.Source.left c.args.source.now in
    let old = g.S.Source.ends c.args.source.now in
    let new = g.S.Source.ends c.plan_for.new.source in
    record {
      refused = refused_read left old new c.in-Refused.read.items c.in-Refused.refusal plan.0 plan.1 c.in-Refused.ensures.unended;
      held = appended (error_text c.in-Refused.refusal) c.as_slice-in-Refused.result.now (g.K.Sink.held c.args.sink.now) (g.K.Sink.held c.write_all-in-Refused.new.sink)
          (c.as_slice-in-Refused.ensures.value ∙ plan.2) c.in-Ok-write_all-2.ensures.ok;
    }

pub returns-in-Refused-clause-writes_part : goal.returns-in-Refused-clause-writes_part
returns-in-Refused-clause-writes_part g c = λ four.
    let plan = c.in-Refused.ensures.plan in
    let left = g.S.Source.left c.args.source.now in
    let old = g.S.Source.ends c.args.source.now in
    let new = g.S.Source.ends c.plan_for.new.source in
    let refused = refused_read left old new c.in-Refused.read.items c.in-Refused.refusal plan.0 plan.1 c.in-Refused.ensures.unended in
    let meant = error c.in-Refused.refusal refused refl in
    let part = c.in-Err-write_all-2.ensures.err in
    written_part _ _ _ _ _ _ _ _ (error_text c.in-Refused.refusal) c.as_slice-in-Refused.result.now meant (c.as_slice-in-Refused.ensures.value ∙ plan.2) part.0 part.1 part.2

pub returns-in-Ok-write_all-3-clause-refused : goal.returns-in-Ok-write_all-3-clause-refused
returns-in-Ok-write_all-3-clause-refused g c =
    let plan = c.in-Overlong.ensures.plan in
    let left = g.S.Source.left c.args.source.now in
    let old = g.S.Source.ends c.args.source.now in
    let new = g.S.Source.ends c.plan_for.new.source in
    record {
      refused = refused_long left old new _ c.in-Overlong.refusal plan.0 plan.1 c.in-Overlong.ensures.ended;
      held = appended (error_text c.in-Overlong.refusal) c.as_slice-in-Overlong.result.now (g.K.Sink.held c.args.sink.now) (g.K.Sink.held c.write_all-in-Overlong.new.sink)
          (c.as_slice-in-Overlong.ensures.value ∙ plan.2) c.in-Ok-write_all-3.ensures.ok;
    }

pub returns-in-Overlong-clause-writes_part : goal.returns-in-Overlong-clause-writes_part
returns-in-Overlong-clause-writes_part g c = λ four.
    let plan = c.in-Overlong.ensures.plan in
    let left = g.S.Source.left c.args.source.now in
    let old = g.S.Source.ends c.args.source.now in
    let new = g.S.Source.ends c.plan_for.new.source in
    let refused = refused_long left old new _ c.in-Overlong.refusal plan.0 plan.1 c.in-Overlong.ensures.ended in
    let meant = error c.in-Overlong.refusal refused refl in
    let part = c.in-Err-write_all-3.ensures.err in
    written_part _ _ _ _ _ _ _ _ (error_text c.in-Overlong.refusal) c.as_slice-in-Overlong.result.now meant (c.as_slice-in-Overlong.ensures.value ∙ plan.2) part.0 part.1 part.2

pub returns-clause-writes_part : goal.returns-clause-writes_part
returns-clause-writes_part g c = λ four.
    let meant = memory refl in
    elim c.match-write_all-5.branch [
      | in-Ok-write_all-4 w ↦ absurd (cc (w.status-is, four))
      | in-Err-write_all-4 w ↦
          let part = w.in-Err-write_all-4.ensures.err in
          written_part _ _ _ _ _ _ _ _ (wanting_text None) c.memory_line.result.now meant c.memory_line.ensures part.0 part.1 part.2
    ]
