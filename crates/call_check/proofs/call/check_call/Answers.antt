use Rattle.std.proofs.Common.{refl, ◌∙◌}
use Rattle.answer_text.specs.Lines.{error_text}
use Rattle.call_words.specs.declared.status.Status.{Status}
use Rattle.call_check.specs.Calls.IsMeantByCheck.{verdict, error}
use Rattle.call_check.proofs.ExactLemmas.{judged_others, judged_system, refused_only, untold, untold_others, untold_system}
use Rattle.call_check.proofs.PlanLemmas.{appended, input_of, refused_read, refused_long, written_part}
use Rattle.call_check.proofs.call.check_call.Goals.{in-Ok, in-Err, in-Ok-write_all, in-Err-write_all, in-Ok-write_all-2, in-Err-write_all-2, in-Ok-write_all-5, in-Err-write_all-5}
use Rattle.call_check.proofs.call.check_call.Goals as goal

pub returns-in-Valid-clause-writes_part : goal.returns-in-Valid-clause-writes_part
returns-in-Valid-clause-writes_part g c = λ four.
    let plan = c.in-Valid.ensures.plan in
    let meant = verdict Status.Answered plan.0 plan.1 in
    elim c.match-write_all.branch [
      | in-Ok w ↦ absurd (cc (w.status-is, four))
      | in-Err w ↦
          let part = w.in-Err.ensures.err in
          written_part _ _ _ _ _ _ _ c.in-Valid.text.items c.as_slice.result.now meant c.as_slice.ensures.value part.0 part.1 part.2
    ]

pub returns-in-Wrong-clause-writes_part : goal.returns-in-Wrong-clause-writes_part
returns-in-Wrong-clause-writes_part g c = λ four.
    let plan = c.in-Wrong.ensures.plan in
    let meant = verdict Status.Wrong plan.0 plan.1 in
    elim c.match-write_all-2.branch [
      | in-Ok-write_all w ↦ absurd (cc (w.status-is, four))
      | in-Err-write_all w ↦
          let part = w.in-Err-write_all.ensures.err in
          written_part _ _ _ _ _ _ _ c.in-Wrong.text.items c.as_slice-in-Wrong.result.now meant c.as_slice-in-Wrong.ensures.value part.0 part.1 part.2
    ]

pub returns-in-NotShown-clause-writes_part : goal.returns-in-NotShown-clause-writes_part
returns-in-NotShown-clause-writes_part g c = λ four.
    let plan = c.in-NotShown.ensures.plan in
    let meant = verdict Status.NotShown plan.0 plan.1 in
    elim c.match-write_all-3.branch [
      | in-Ok-write_all-2 w ↦ absurd (cc (w.status-is, four))
      | in-Err-write_all-2 w ↦
          let part = w.in-Err-write_all-2.ensures.err in
          written_part _ _ _ _ _ _ _ c.in-NotShown.text.items c.as_slice-in-NotShown.result.now meant c.as_slice-in-NotShown.ensures.value part.0 part.1 part.2
    ]

pub returns-in-Ok-write_all-3-clause-refused : goal.returns-in-Ok-write_all-3-clause-refused
returns-in-Ok-write_all-3-clause-refused g c =
    let plan = c.in-Refused.ensures.plan in
    let left = g.S.Source.left c.args.source.now in
    let old = g.S.Source.ends c.args.source.now in
    let new = g.S.Source.ends c.plan_for.new.source in
    record {
      refused = refused_read left old new c.in-Refused.read.items c.in-Refused.refusal plan.0 plan.1 c.in-Refused.ensures.unended;
      held = appended (error_text c.in-Refused.refusal) c.as_slice-in-Refused.result.now (g.K.Sink.held c.args.sink.now) (g.K.Sink.held c.write_all-in-Refused.new.sink)
          (c.as_slice-in-Refused.ensures.value ∙ plan.2) c.in-Ok-write_all-3.ensures.ok;
    }

pub returns-in-Refused-clause-writes_part : goal.returns-in-Refused-clause-writes_part
returns-in-Refused-clause-writes_part g c = λ four.
    let plan = c.in-Refused.ensures.plan in
    let left = g.S.Source.left c.args.source.now in
    let old = g.S.Source.ends c.args.source.now in
    let new = g.S.Source.ends c.plan_for.new.source in
    let refused = refused_read left old new c.in-Refused.read.items c.in-Refused.refusal plan.0 plan.1 c.in-Refused.ensures.unended in
    let meant = error c.in-Refused.refusal refused refl in
    let part = c.in-Err-write_all-3.ensures.err in
    written_part _ _ _ _ _ _ _ (error_text c.in-Refused.refusal) c.as_slice-in-Refused.result.now meant (c.as_slice-in-Refused.ensures.value ∙ plan.2) part.0 part.1 part.2

pub returns-in-Ok-write_all-4-clause-refused : goal.returns-in-Ok-write_all-4-clause-refused
returns-in-Ok-write_all-4-clause-refused g c =
    let plan = c.in-Overlong.ensures.plan in
    let left = g.S.Source.left c.args.source.now in
    let old = g.S.Source.ends c.args.source.now in
    let new = g.S.Source.ends c.plan_for.new.source in
    record {
      refused = refused_long left old new _ c.in-Overlong.refusal plan.0 plan.1 c.in-Overlong.ensures.ended;
      held = appended (error_text c.in-Overlong.refusal) c.as_slice-in-Overlong.result.now (g.K.Sink.held c.args.sink.now) (g.K.Sink.held c.write_all-in-Overlong.new.sink)
          (c.as_slice-in-Overlong.ensures.value ∙ plan.2) c.in-Ok-write_all-4.ensures.ok;
    }

pub returns-in-Overlong-clause-writes_part : goal.returns-in-Overlong-clause-writes_part
returns-in-Overlong-clause-writes_part g c = λ four.
    let plan = c.in-Overlong.ensures.plan in
    let left = g.S.Source.left c.args.source.now in
    let old = g.S.Source.ends c.args.source.now in
    let new = g.S.Source.ends c.plan_for.new.source in
    let refused = refused_long left old new _ c.in-Overlong.refusal plan.0 plan.1 c.in-Overlong.ensures.ended in
    let meant = error c.in-Overlong.refusal refused refl in
    let part = c.in-Err-write_all-4.ensures.err in
    written_part _ _ _ _ _ _ _ (error_text c.in-Overlong.refusal) c.as_slice-in-Overlong.result.now meant (c.as_slice-in-Overlong.ensures.value ∙ plan.2) part.0 part.1 part.2

-- exactly

pub returns-in-Valid-clause-refuses_others : goal.returns-in-Valid-clause-refuses_others
returns-in-Valid-clause-refuses_others g c =
    let plan = c.in-Valid.ensures.plan in
    judged_others c.inputs_are_parted_once.ensures.script c.no_script_is_refused.ensures c.args.nodes (g.S.Source.left c.args.source.now) c.in-Valid.read.items Status.Answered _ c.in-Valid.text.items plan.0 plan.1

pub returns-in-Valid-clause-refuses_shapes : goal.returns-in-Valid-clause-refuses_shapes
returns-in-Valid-clause-refuses_shapes g c =
    let plan = c.in-Valid.ensures.plan in
    judged_system c.args.nodes (g.S.Source.left c.args.source.now) c.in-Valid.read.items Status.Answered _ c.in-Valid.text.items plan.0 plan.1

pub returns-in-Wrong-clause-refuses_others : goal.returns-in-Wrong-clause-refuses_others
returns-in-Wrong-clause-refuses_others g c =
    let plan = c.in-Wrong.ensures.plan in
    judged_others c.inputs_are_parted_once.ensures.script c.no_script_is_refused.ensures c.args.nodes (g.S.Source.left c.args.source.now) c.in-Wrong.read.items Status.Wrong _ c.in-Wrong.text.items plan.0 plan.1

pub returns-in-Wrong-clause-refuses_shapes : goal.returns-in-Wrong-clause-refuses_shapes
returns-in-Wrong-clause-refuses_shapes g c =
    let plan = c.in-Wrong.ensures.plan in
    judged_system c.args.nodes (g.S.Source.left c.args.source.now) c.in-Wrong.read.items Status.Wrong _ c.in-Wrong.text.items plan.0 plan.1

pub returns-in-NotShown-clause-refuses_others : goal.returns-in-NotShown-clause-refuses_others
returns-in-NotShown-clause-refuses_others g c =
    let plan = c.in-NotShown.ensures.plan in
    judged_others c.inputs_are_parted_once.ensures.script c.no_script_is_refused.ensures c.args.nodes (g.S.Source.left c.args.source.now) c.in-NotShown.read.items Status.NotShown _ c.in-NotShown.text.items plan.0 plan.1

pub returns-in-NotShown-clause-refuses_shapes : goal.returns-in-NotShown-clause-refuses_shapes
returns-in-NotShown-clause-refuses_shapes g c =
    let plan = c.in-NotShown.ensures.plan in
    judged_system c.args.nodes (g.S.Source.left c.args.source.now) c.in-NotShown.read.items Status.NotShown _ c.in-NotShown.text.items plan.0 plan.1

pub returns-in-Ok-write_all-3-clause-refuses_others : goal.returns-in-Ok-write_all-3-clause-refuses_others
returns-in-Ok-write_all-3-clause-refuses_others g c = untold_others (g.S.Source.left c.args.source.now) Status.Refused (untold Status.Refused tt)

pub returns-in-Ok-write_all-3-clause-refuses_shapes : goal.returns-in-Ok-write_all-3-clause-refuses_shapes
returns-in-Ok-write_all-3-clause-refuses_shapes g c = untold_system (g.S.Source.left c.args.source.now) Status.Refused (untold Status.Refused tt)

pub returns-in-Refused-clause-refuses_others : goal.returns-in-Refused-clause-refuses_others
returns-in-Refused-clause-refuses_others g c = untold_others (g.S.Source.left c.args.source.now) Status.WriteFault (untold Status.WriteFault tt)

pub returns-in-Refused-clause-refuses_shapes : goal.returns-in-Refused-clause-refuses_shapes
returns-in-Refused-clause-refuses_shapes g c = untold_system (g.S.Source.left c.args.source.now) Status.WriteFault (untold Status.WriteFault tt)

pub returns-in-Ok-write_all-4-clause-refuses_others : goal.returns-in-Ok-write_all-4-clause-refuses_others
returns-in-Ok-write_all-4-clause-refuses_others g c = untold_others (g.S.Source.left c.args.source.now) Status.Refused (untold Status.Refused tt)

pub returns-in-Ok-write_all-4-clause-refuses_shapes : goal.returns-in-Ok-write_all-4-clause-refuses_shapes
returns-in-Ok-write_all-4-clause-refuses_shapes g c = untold_system (g.S.Source.left c.args.source.now) Status.Refused (untold Status.Refused tt)

pub returns-in-Overlong-clause-refuses_others : goal.returns-in-Overlong-clause-refuses_others
returns-in-Overlong-clause-refuses_others g c = untold_others (g.S.Source.left c.args.source.now) Status.WriteFault (untold Status.WriteFault tt)

pub returns-in-Overlong-clause-refuses_shapes : goal.returns-in-Overlong-clause-refuses_shapes
returns-in-Overlong-clause-refuses_shapes g c = untold_system (g.S.Source.left c.args.source.now) Status.WriteFault (untold Status.WriteFault tt)

pub returns-in-ReadFault-clause-refuses_others : goal.returns-in-ReadFault-clause-refuses_others
returns-in-ReadFault-clause-refuses_others g c = untold_others (g.S.Source.left c.args.source.now) Status.ReadFault (untold Status.ReadFault tt)

pub returns-in-ReadFault-clause-refuses_shapes : goal.returns-in-ReadFault-clause-refuses_shapes
returns-in-ReadFault-clause-refuses_shapes g c = untold_system (g.S.Source.left c.args.source.now) Status.ReadFault (untold Status.ReadFault tt)

pub returns-in-Ok-write_all-3-clause-judges_scripts : goal.returns-in-Ok-write_all-3-clause-judges_scripts
returns-in-Ok-write_all-3-clause-judges_scripts g c =
    let plan = c.in-Refused.ensures.plan in
    let left = g.S.Source.left c.args.source.now in
    refused_only left c.in-Refused.refusal Status.Refused (input_of left c.in-Refused.read.items c.in-Refused.refusal plan.1 plan.0)

pub returns-in-Ok-write_all-4-clause-judges_scripts : goal.returns-in-Ok-write_all-4-clause-judges_scripts
returns-in-Ok-write_all-4-clause-judges_scripts g c = refused_only (g.S.Source.left c.args.source.now) c.in-Overlong.refusal Status.Refused c.in-Overlong.ensures.plan.1

pub returns-clause-refuses_others : goal.returns-clause-refuses_others
returns-clause-refuses_others g c =
    elim c.match-write_all-6.branch [
      | in-Ok-write_all-5 w ↦ rw w.status-is (untold_others (g.S.Source.left c.args.source.now) Status.Memory (untold Status.Memory tt))
      | in-Err-write_all-5 w ↦ rw w.status-is (untold_others (g.S.Source.left c.args.source.now) Status.WriteFault (untold Status.WriteFault tt))
    ]

pub returns-clause-refuses_shapes : goal.returns-clause-refuses_shapes
returns-clause-refuses_shapes g c =
    elim c.match-write_all-6.branch [
      | in-Ok-write_all-5 w ↦ rw w.status-is (untold_system (g.S.Source.left c.args.source.now) Status.Memory (untold Status.Memory tt))
      | in-Err-write_all-5 w ↦ rw w.status-is (untold_system (g.S.Source.left c.args.source.now) Status.WriteFault (untold Status.WriteFault tt))
    ]
