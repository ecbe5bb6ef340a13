use Rattle.std.proofs.Common.{◌++◌, List, ap, ◌∙◌, codes}
use Rattle.term_tree.specs.declared.sort.Sort.{Sort}
use Rattle.term_check.specs.Spelling.{sorts_of}
use Rattle.answer_text.specs.AnswerTexts.{pred_text, parameters_text}
use Rattle.answer_text.proofs.PushLemmas.{behind}
use Rattle.answer_text.proofs.printed_model.push_head.Goals as goal

pub returns : goal.returns
returns c =
    let out = c.args.out.now.items in
    let name = pred_text c.args.preds.now c.args.pred in
    let params = parameters_text (sorts_of c.args.preds.now c.args.pred) in
    let listed = c.in_ok-push_parameters.ensures ∙ ap (λ (sorts : List Sort). c.extend_from_slice-2.new.self.items ++ parameters_text sorts) c.sorts_of.ensures in
    let one = behind out _ _ (codes "(define-fun ") name c.in_ok-extend_from_slice.ensures.items c.in_ok-push_pred.ensures in
    let two = behind out _ _ (codes "(define-fun " ++ name) (codes " (") one c.in_ok-extend_from_slice-2.ensures.items in
    let three = behind out _ _ (codes "(define-fun " ++ name ++ codes " (") params two listed in
    behind out _ _ (codes "(define-fun " ++ name ++ codes " (" ++ params) (codes ") Bool ") three c.in_ok-extend_from_slice-3.ensures.items
