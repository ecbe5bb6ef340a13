use Rattle.std.proofs.Common.{◌++◌, codes}
use Rattle.answer_text.specs.AnswerTexts.{step_numbers, step_lists, conclusion_text}
use Rattle.answer_text.proofs.PushLemmas.{behind}
use Rattle.answer_text.proofs.derivation.push_step.Goals as goal

pub returns : goal.returns
returns c =
    let out = c.args.out.now.items in
    let line = c.args.line.now in
    let head = conclusion_text c.args.preds.now line.head in
    let one = behind out _ _ (step_numbers line) (step_lists line) c.in_ok-push_numbers.ensures c.in_ok-push_lists.ensures in
    let two = behind out _ _ (step_numbers line ++ step_lists line) head one c.in_ok-push_conclusion.ensures in
    behind out _ _ (step_numbers line ++ step_lists line ++ head) (codes ")\n") two c.in_ok-extend_from_slice.ensures.items
