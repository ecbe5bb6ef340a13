use Rattle.std.proofs.Common.{inl}
use Rattle.chc_checker.proofs.whole.judged.Goals as goal

pub check_answer-requires-clause-answer : goal.check_answer-requires-clause-answer
check_answer-requires-clause-answer c = c.is_checkable.ensures c.args.text.now c.requires.spelled

pub returns : goal.returns
returns c = inl (c.args.answer.now, c.requires.spelled, c.is_checkable.ensures c.args.text.now c.requires.spelled, c.in_ok-verdict.ensures)
