-- What an ended book answers, and that it can be printed.
use Rattle.std.proofs.Common.{◌≡◌, ℕ, ◌<◌, ◌≤◌, ◌^◌, List, [], length, ap, sym, ◌∙◌, subst, refl, arith}
use Rattle.std.specs.Prelude.{None}
use Rattle.std.specs.List.{AllByRecursion}
use Rattle.std.proofs.lemmas.List.{length-map}
use Rattle.term_tree.specs.declared.definition.Definition.{Definition}
use Rattle.term_tree.specs.declared.refusal.Checked.{Checked}
use Rattle.term_tree.specs.declared.script.Pred.{Pred}
use Rattle.term_tree.specs.Solution.{DefinesEach}
use Rattle.derivations.specs.Facts.{AreRecorded}
use Rattle.lemma_frames.specs.Frames.{Lemmas}
use Rattle.lemma_frames.specs.declared.framed.Framed.{Framed}
use Rattle.book_rules.specs.declared.end.End.{End}
use Rattle.book_rules.specs.declared.end.End.TheVariants.{Unsat as UnsatEnd, Sat as SatEnd, Spent, Stalled}
use Rattle.book_rules.specs.Instances.{IsDerivable, instances}
use Rattle.book_rules.specs.Kept.{AreRecorded as AreKept, IsFalse}
use Rattle.book_rules.specs.Values.{AreShort}
use Rattle.step_rules.specs.Views.{facts_of}
use Rattle.cert_derivations.proofs.Public.{derivable_over_system, system_made}
use Rattle.cert_derivations.proofs.Public.{facts_printed, steps-end}
use Rattle.chc_core.specs.Contents.{Contents}
use Rattle.chc_core.specs.Views.{state_of}
use Rattle.interpretations.specs.Definitions.{AreDefinitionsOf, HavePlaces}
use Rattle.answer_text.specs.declared.answer.Answer.{Answer}
use Rattle.answer_text.specs.Printable.{IsMadeOfLemmas, IsPrintable}
use Rattle.book_answers.specs.Answers.{HasNoLowFalse, IsAnswerAt, IsBookOf}
use Rattle.book_answers.proofs.FalseLemmas.{false_pred, false_within, few_steps}

-- what isn't derivable over the clauses isn't by the script
pub no_low_false : (checked : Checked) (b : Contents) → IsBookOf checked b → ((h : ℕ) → h ≤ b.level → IsDerivable (instances b.system) h None → ⊥) → HasNoLowFalse checked.script b.level
no_low_false checked b of none h low derived = none h low (derivable_over_system checked.script b.system (system_made checked b.system of.system) of.arena of.legal h None derived)

-- as many predicates in the book as in the script
pub preds-count : (checked : Checked) (b : Contents) → IsBookOf checked b → length checked.script.preds ≡ length b.system.preds
preds-count checked b of = sym (length-map checked.script.preds (λ (p : Pred). p.args)) ∙ ap length (system_made checked b.system of.system).preds

pub places-of : (preds given : List Pred) (frames shown : Lemmas) → given ≡ preds → shown ≡ frames → HavePlaces preds frames.lemmas → HavePlaces given shown.lemmas
places-of preds given frames shown same are h =
    subst (λ (ps : List Pred). HavePlaces ps shown.lemmas) (sym same) (subst (λ (f : Lemmas). HavePlaces preds f.lemmas) (sym are) h)

pub made-of : (preds given : List Pred) (frames shown : Lemmas) (level : ℕ) (made : List Definition) → given ≡ preds → shown ≡ frames → AreDefinitionsOf shown.lemmas level 0 given made → AreDefinitionsOf frames.lemmas level 0 preds made
made-of preds given frames shown level made same are h =
    subst (λ (ps : List Pred). AreDefinitionsOf frames.lemmas level 0 ps made) same (subst (λ (f : Lemmas). AreDefinitionsOf f.lemmas level 0 given made) are h)

-- an answer can be printed
module _ (defined : (lemmas : List Framed) (k : ℕ) (preds : List Pred) (definitions : List Definition) → AreDefinitionsOf lemmas k 0 preds definitions → DefinesEach 0 preds definitions)
    (printed : (lemmas : List Framed) (k : ℕ) (preds : List Pred) (definitions : List Definition) → AreDefinitionsOf lemmas k 0 preds definitions → AllByRecursion (IsMadeOfLemmas preds) definitions) where
  pub printable : (checked : Checked) (b : Contents) (e : End) (answer : Answer) → IsBookOf checked b → AreRecorded b.facts → AreKept b.system [] (state_of b).facts → AreShort (state_of b) → length b.facts < 2 ^ 32
      → ((fact : ℕ) → e ≡ UnsatEnd fact → IsFalse (instances b.system) (state_of b) fact) → IsAnswerAt checked.script b e answer → IsPrintable checked.script.preds answer
  printable checked b (UnsatEnd fact) answer of recorded kept short few false h =
      let steps = h.0 in
      let is = false fact refl in
      let within = false_within b.facts fact is.fact is.there in
      let ends = steps-end b.facts fact steps recorded within (false_pred b.facts fact is.fact is.there is.is_false) h.1 in
      let text = facts_printed checked b.system (facts_of b.facts) steps (record { arena = of.arena; legal = of.legal; system = of.system; recorded = kept; short = short.facts }) ends
      (few_steps b fact steps recorded within (omega (arith, within, few)) h.1) in
      subst (IsPrintable checked.script.preds) (sym h.2) text.printable
  printable checked b (SatEnd level) answer of recorded kept short few false h =
      subst (IsPrintable checked.script.preds) (sym h.1) (defined b.frames.lemmas level checked.script.preds h.0 h.2, printed b.frames.lemmas level checked.script.preds h.0 h.2)
  printable checked b (Spent units) answer of recorded kept short few false h = subst (IsPrintable checked.script.preds) (sym h.0) tt
  printable checked b Stalled answer of recorded kept short few false h = subst (IsPrintable checked.script.preds) (sym h.0) tt
