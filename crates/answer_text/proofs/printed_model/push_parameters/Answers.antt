use Rattle.std.proofs.Common.{◌-◌, length, take, drop, refl, arith}
use Rattle.answer_text.proofs.PushLemmas.{parameters_begin, one_more_parameter, parameters_end}
use Rattle.answer_text.proofs.printed_model.push_parameters.Goals as goal

pub loop-i-init : goal.loop-i-init
loop-i-init c = parameters_begin c.args.sorts.now _ c.args.out.now.items c.push_parameter.new.out.items (omega (arith, c.in-len1-up.len_at_least)) c.in_ok-push_parameter.ensures

pub loop-i-preserved : goal.loop-i-preserved
loop-i-preserved c =
    let sorts = c.args.sorts.now in
    one_more_parameter (take (length sorts - 1) (drop 1 sorts)) c.loop-i.i _ _ c.loop-i.out.items c.push_spaced_parameter.new.out.items _ c.loop-i-test.true refl c.loop-i.invariant c.in_ok-push_spaced_parameter.ensures

pub returns-after-loop-i : goal.returns-after-loop-i
returns-after-loop-i c =
    let sorts = c.args.sorts.now in parameters_end (take (length sorts - 1) (drop 1 sorts)) c.loop-i.i c.loop-i.out.items _ c.loop-i-test.false c.loop-i.invariant
