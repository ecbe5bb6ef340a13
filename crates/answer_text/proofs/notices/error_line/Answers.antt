use Rattle.std.proofs.Common.{◌++◌, ℕ, List, [], ap, ◌∙◌, codes, decimal, take}
use Rattle.term_tree.specs.Kind.{kind_number, kind_word}
use Rattle.answer_text.proofs.PushLemmas.{behind}
use Rattle.answer_text.proofs.notices.error_line.Goals as goal

pub returns-clause-text : goal.returns-clause-text
returns-clause-text c =
    let r = c.args.refusal.now in
    let head = codes "(error \"kind " in
    let number = c.put_number-at.ensures.written ∙ ap (λ (n : ℕ). take c.put-at.result c.put-at.new.into ++ decimal n) (c.from.ensures ∙ c.number.ensures) in
    let word = c.put-at-3.ensures.written ∙ ap (λ (w : List ℕ). take c.put-at-2.result c.put-at-2.new.into ++ w) c.word.ensures.is in
    let one = behind [] _ _ head (decimal (kind_number r.kind)) c.put-at.ensures.written number in
    let two = behind [] _ _ (head ++ decimal (kind_number r.kind)) (codes " ") one c.put-at-2.ensures.written in
    let three = behind [] _ _ (head ++ decimal (kind_number r.kind) ++ codes " ") (kind_word r.kind) two word in
    let four = behind [] _ _ (head ++ decimal (kind_number r.kind) ++ codes " " ++ kind_word r.kind) (codes " at byte ") three c.put-at-4.ensures.written in
    let five = behind [] _ _ (head ++ decimal (kind_number r.kind) ++ codes " " ++ kind_word r.kind ++ codes " at byte ") (decimal r.offset) four c.put_number-at-2.ensures.written in
    let six = behind [] _ _ (head ++ decimal (kind_number r.kind) ++ codes " " ++ kind_word r.kind ++ codes " at byte " ++ decimal r.offset) (codes " after ") five c.put-at-5.ensures.written in
    let command = c.put_number-at-3.ensures.written ∙ ap (λ (n : ℕ). take c.put-at-5.result c.put-at-5.new.into ++ decimal n) c.from-2.ensures in
    let seven = behind [] _ _ (head ++ decimal (kind_number r.kind) ++ codes " " ++ kind_word r.kind ++ codes " at byte " ++ decimal r.offset ++ codes " after ") (decimal r.command) six command in
    behind [] _ _ (head ++ decimal (kind_number r.kind) ++ codes " " ++ kind_word r.kind ++ codes " at byte " ++ decimal r.offset ++ codes " after " ++ decimal r.command) (codes " commands\")\n") seven c.put.ensures.written
