use Rattle.std.proofs.Common.{List, length, ap, subst, ◌∙◌, arith}
use Rattle.answer_text.specs.declared.answer.Answer.TheVariants.{Unsat}
use Rattle.derivations.specs.Facts.{AreRecorded, AreSteps}
use Rattle.derivations.specs.declared.fact.Fact.{Fact as KeptFact}
use Rattle.book_answers.proofs.FalseLemmas.{false-derived, false_within, lines-as}
use Rattle.book_answers.proofs.answers.unsat.Goals as goal

pub steps_to-requires : goal.steps_to-requires
steps_to-requires c =
    let is = c.end-end.ensures.unsat c.args.fact (c.end-end.ensures.is ∙ c.requires.ended) in
    let within = false_within c.args.book.now.facts c.args.fact is.fact is.there in
    omega (arith, within, ap length c.facts-facts.ensures.is)

pub returns : goal.returns
returns c = λ checked of.
    let is = c.end-end.ensures.unsat c.args.fact (c.end-end.ensures.is ∙ c.requires.ended) in
    let b = c.args.book.now in
    let steps = c.in_ok-steps.steps.items in
    let recorded : AreRecorded b.facts = subst AreRecorded c.facts-facts.ensures.is c.record_law.ensures in
    let are : AreSteps b.facts c.args.fact steps = subst (λ (fs : List KeptFact). AreSteps fs c.args.fact steps) c.facts-facts.ensures.is c.in_ok-steps.ensures in (
      steps,
      are,
      ap Unsat (lines-as c.system.result.now b c.facts-facts.result.now steps c.as_slice.result.now c.in_ok-lines.lines c.in_ok-lines.ensures c.system.ensures c.facts-facts.ensures.is c.as_slice.ensures.value),
      false-derived checked b c.args.fact steps of is recorded c.facts-facts.ensures.recorded c.facts-facts.ensures.short are,
    )
