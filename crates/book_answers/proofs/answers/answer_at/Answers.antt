use Rattle.std.proofs.Common.{ℕ, ap, sym, subst, ◌∙◌, arith}
use Rattle.std.specs.Prelude.{Some}
use Rattle.book_rules.specs.declared.end.End.{End}
use Rattle.chc_core.specs.Views.{state_of}
use Rattle.answer_text.specs.declared.answer.Answer.TheVariants.{Unknown}
use Rattle.answer_text.specs.declared.answer.UnknownCause.TheVariants.{Units, Stalled}
use Rattle.book_answers.specs.Answers.{IsAnswerAt}
use Rattle.book_answers.proofs.EndLemmas.{spent-given}
use Rattle.book_answers.proofs.TextLemmas.{no_low_false}
use Rattle.book_answers.proofs.answers.answer_at.Goals as goal

pub returns-in-Spent : goal.returns-in-Spent
returns-in-Spent c =
    let b = c.args.book.now in
    let script = c.args.checked.now.script in
    subst (λ (e : End). IsAnswerAt script b e (Unknown c.level-level.result (Units c.in-Spent.units))) (sym c.in-Spent.is) (
      ap (λ (n : ℕ). Unknown n (Units c.in-Spent.units)) c.level-level.ensures.is,
      spent-given (state_of b) c.in-Spent.units (c.requires.ended ∙ ap (λ (e : End). Some e) c.in-Spent.is),
      no_low_false c.args.checked.now b c.requires.of (λ h low derived. c.level-level.ensures.no_false h (omega (arith, low, c.level-level.ensures.is)) derived),
    )

pub returns-in-Stalled : goal.returns-in-Stalled
returns-in-Stalled c =
    let b = c.args.book.now in
    let script = c.args.checked.now.script in
    subst (λ (e : End). IsAnswerAt script b e (Unknown c.level-level.result Stalled)) (sym c.in-Stalled.is) (
      ap (λ (n : ℕ). Unknown n Stalled) c.level-level.ensures.is,
      no_low_false c.args.checked.now b c.requires.of (λ h low derived. c.level-level.ensures.no_false h (omega (arith, low, c.level-level.ensures.is)) derived),
    )
