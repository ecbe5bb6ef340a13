use Rattle.std.proofs.Common.{◌≤◌, length, subst, arith, rules}
use Rattle.std.specs.Prelude.{IsErrOf}
use Rattle.answer_text.specs.declared.stop.AnswerStop.{AnswerStop}
use Rattle.chc_checker.proofs.whole.check_text.Goals as goal

pub read_answer-requires-clause-preds : goal.read_answer-requires-clause-preds
read_answer-requires-clause-preds c = let few : length c.args.script.now.preds ≤ 4096 = c.requires.legal.few_preds in omega (arith, few)

pub returns-in-Err : goal.returns-in-Err
returns-in-Err c =
    let told : IsErrOf c.read_answer.result c.in-Err.stop = search rules in
    c.stopped.ensures c.args.nodes c.args.script.now c.args.text.now
    (λ offset is. c.read_answer.ensures.bad offset (subst (λ (s : AnswerStop). IsErrOf c.read_answer.result s) is told))
