use Rattle.std.proofs.Common.{refl, sym, ◌∙◌, ap}
use Rattle.std.specs.Prelude.{None, Some, ℕ, ◌++◌, codes}
use Rattle.answer_text.specs.Lines.{level_text}
use Rattle.answer_text.specs.declared.answer.UnknownCause.TheVariants.{NoMemory}
use Rattle.book_answers.specs.Wanting.{wanting_text}
use Rattle.call_gen.specs.Summaries.IsMeantToSum.{memory}
use Rattle.call_words.specs.declared.status.Status.{Status}
use Rattle.call_gen.proofs.CallLemmas.{appended, not_other, part_of}
use Rattle.call_gen.proofs.call.unfinished.Goals as goal

pub returns-clause-few : goal.returns-clause-few
returns-clause-few g c = λ four five. absurd (five (c.status_of-status.ensures.whole four).0)

pub returns-clause-answered : goal.returns-clause-answered
returns-clause-answered g c = λ zero.
    let five = (c.status_of-status.ensures.whole (not_other c.status_of-status.result Status.Answered zero (λ e. absurd (cc)))).0 in
    absurd (cc (zero, five))

pub returns-clause-writes_part : goal.returns-clause-writes_part
returns-clause-writes_part g c = λ four.
    let same = c.unfinished_lines-length.ensures.text ∙ ap (λ (l : ℕ). codes "unknown\n" ++ level_text l NoMemory) c.level.ensures.is in
    part_of c.args.depth c.args.seed (Some c.args.book) (wanting_text (Some c.args.book)) _ _ _ (memory refl) same (c.status_of-status.ensures.part four)

pub returns-clause-memory : goal.returns-clause-memory
returns-clause-memory g c = λ five.
    let same = c.unfinished_lines-length.ensures.text ∙ ap (λ (l : ℕ). codes "unknown\n" ++ level_text l NoMemory) c.level.ensures.is in
    appended (wanting_text (Some c.args.book)) _ _ _ same (c.status_of-status.ensures.whole (not_other c.status_of-status.result Status.Memory five (λ e. absurd (cc)))).1
