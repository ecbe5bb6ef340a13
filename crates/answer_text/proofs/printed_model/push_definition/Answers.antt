use Rattle.std.proofs.Common.{◌++◌, codes}
use Rattle.answer_text.specs.Terms.{term_text}
use Rattle.answer_text.specs.AnswerTexts.{definition_head, definition_text}
use Rattle.answer_text.proofs.PushLemmas.{behind}
use Rattle.answer_text.proofs.printed_model.push_definition.Goals as goal

pub returns : goal.returns
unfolding definition_text
returns c =
    let out = c.args.out.now.items in
    let d = c.args.definition.now in
    let head = definition_head c.args.preds.now d.pred in
    let body = term_text d.terms.nodes d.body.0 in
    let one = behind out _ _ head body c.in_ok-push_head.ensures c.in_ok-push_body.ensures in
    behind out _ _ (head ++ body) (codes ")\n") one c.in_ok-extend_from_slice.ensures.items
