use Rattle.std.proofs.Common.{length, ap, subst, ◌∙◌, arith}
use Rattle.std.specs.Prelude.{Some}
use Rattle.book_rules.specs.declared.end.End.{End}
use Rattle.derivations.specs.Facts.{AreRecorded}
use Rattle.book_answers.proofs.TextLemmas.{printable}
use Rattle.book_answers.proofs.texts.is_printable.Goals as goal

pub returns : goal.returns
returns c =
    printable c.definitions_are_printed.ensures.defined c.definitions_are_printed.ensures.printed c.args.checked.now c.args.book.now c.args.ending c.args.answer.now c.requires.of
    (subst AreRecorded c.facts-facts.ensures.is c.record_law.ensures) c.facts-facts.ensures.recorded c.facts-facts.ensures.short (omega (arith, c.count-count.ensures, ap length c.facts-facts.ensures.is))
    (λ fact is. c.end-end.ensures.unsat fact (c.end-end.ensures.is ∙ c.requires.ended ∙ ap (λ (e : End). Some e) is)) c.requires.answers
