use Rattle.std.proofs.Common.{◌++◌, ap, ◌∙◌, codes, arith}
use Rattle.answer_text.specs.Names.{value_text, after_spaces}
use Rattle.answer_text.specs.AnswerTexts.{pred_text}
use Rattle.answer_text.proofs.PushLemmas.{behind, atom_listed}
use Rattle.answer_text.proofs.derivation.push_atom.Goals as goal

pub returns-in_ok-extend_from_slice-2 : goal.returns-in_ok-extend_from_slice-2
returns-in_ok-extend_from_slice-2 c =
    let out = c.args.out.now.items in
    let name = pred_text c.args.preds.now c.args.pred in
    let values = after_spaces value_text c.args.values.now in
    let one = behind out _ _ (codes "(") name c.in_ok-extend_from_slice.ensures.items c.in_ok-push_pred-2.ensures in
    let two = behind out _ _ (codes "(" ++ name) values one c.in_ok-push_after_spaces.ensures in
    let three = behind out _ _ (codes "(" ++ name ++ values) (codes ")") two c.in_ok-extend_from_slice-2.ensures.items in
    three ∙ ap (λ text. out ++ text) (atom_listed name c.args.values.now (omega (arith, c.in_default.len_at_least)))
