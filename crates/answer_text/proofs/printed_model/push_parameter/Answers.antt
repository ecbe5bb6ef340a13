use Rattle.std.proofs.Common.{◌++◌, List, ℕ, ap, ◌∙◌, codes}
use Rattle.answer_text.specs.Terms.{parameter_name}
use Rattle.answer_text.specs.AnswerTexts.{sort_text}
use Rattle.answer_text.proofs.PushLemmas.{behind}
use Rattle.answer_text.proofs.printed_model.push_parameter.Goals as goal

pub returns : goal.returns
returns c =
    let out = c.args.out.now.items in
    let name = parameter_name c.args.number in
    let sort = c.in_ok-extend_from_slice-3.ensures.items ∙ ap (λ (word : List ℕ). c.extend_from_slice-2.new.self.items ++ word) c.sort_word.ensures in
    let one = behind out _ _ (codes "(") name c.in_ok-extend_from_slice.ensures.items c.in_ok-push_parameter_name.ensures in
    let two = behind out _ _ (codes "(" ++ name) (codes " ") one c.in_ok-extend_from_slice-2.ensures.items in
    let three = behind out _ _ (codes "(" ++ name ++ codes " ") (sort_text c.args.sort) two sort in
    behind out _ _ (codes "(" ++ name ++ codes " " ++ sort_text c.args.sort) (codes ")") three c.in_ok-extend_from_slice-4.ensures.items
