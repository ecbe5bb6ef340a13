use Rattle.std.proofs.Common.{◌≡◌, ℕ, List, length, ap, ap₂, subst, sym, ◌∙◌, arith}
use Rattle.derivations.specs.Facts.{AreRecorded, AreSteps, height_of}
use Rattle.derivations.specs.declared.fact.Fact.{Fact as KeptFact}
use Rattle.book_answers.proofs.FalseLemmas.{false-derived, false_within}
use Rattle.call_gen.specs.Summaries.{summary_text}
use Rattle.call_gen.proofs.summary.unsat.Goals as goal

pub steps_to-requires : goal.steps_to-requires
steps_to-requires c =
    let is = c.end-end.ensures.unsat c.args.fact (c.end-end.ensures.is ∙ c.requires.ended) in
    let within = false_within c.args.book.now.facts c.args.fact is.fact is.there in
    omega (arith, within, ap length c.facts-facts.ensures.is)

pub height-height-requires : goal.height-height-requires
height-height-requires c =
    let is = c.end-end.ensures.unsat c.args.fact (c.end-end.ensures.is ∙ c.requires.ended) in
    let within = false_within c.args.book.now.facts c.args.fact is.fact is.there in
    omega (arith, within, ap length c.facts-facts.ensures.is)

pub returns : goal.returns
returns c = λ checked of.
    let is = c.end-end.ensures.unsat c.args.fact (c.end-end.ensures.is ∙ c.requires.ended) in
    let b = c.args.book.now in
    let steps = c.in_ok-steps.steps.items in
    let recorded : AreRecorded b.facts = subst AreRecorded c.facts-facts.ensures.is c.record_law.ensures in
    let are : AreSteps b.facts c.args.fact steps = subst (λ (fs : List KeptFact). AreSteps fs c.args.fact steps) c.facts-facts.ensures.is c.in_ok-steps.ensures in (
      steps,
      are,
      c.in_ok-text.ensures ∙ ap₂ summary_text (c.count_of-count.ensures ∙ ap length c.as_slice.ensures.value) (c.height-height.ensures ∙ ap (λ (fs : List KeptFact). height_of fs c.args.fact) c.facts-facts.ensures.is),
      false-derived checked b c.args.fact steps of is recorded c.facts-facts.ensures.recorded c.facts-facts.ensures.short are,
    )
