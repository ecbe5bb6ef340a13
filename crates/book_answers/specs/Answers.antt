-- What a book over the clauses of a script answers: by its end, definitions, a derivation, or the cause of none; and that no
-- derivation of false is as low as its closed level (Komuravelli, Gurfinkel and Chaki, "SMT-based model checking for recursive
-- programs", section 4).
use Rattle.std.specs.Prelude.{◌≡◌, ◌≤◌, ℕ, List, [], Ok, Err, None}
use Rattle.term_tree.specs.declared.definition.Definition.{Definition}
use Rattle.term_tree.specs.declared.refusal.Checked.{Checked}
use Rattle.term_tree.specs.declared.script.Script.{Script}
use Rattle.term_tree.specs.Arena.{IsArena}
use Rattle.term_tree.specs.Solution.{IsSolution}
use Rattle.horn_shape.specs.Clause.{IsLegalScript}
use Rattle.horn_shape.specs.Derivation.{IsDerivableWithin}
use Rattle.clause_normal.specs.Reading.{system_reading}
use Rattle.derivations.specs.Facts.{AreSteps}
use Rattle.book_rules.specs.declared.end.End.{End}
use Rattle.book_rules.specs.declared.end.End.TheVariants.{Unsat as UnsatEnd, Sat as SatEnd, Spent, Stalled}
use Rattle.step_rules.specs.Views.{facts_of}
use Rattle.chc_core.specs.Contents.{Contents}
use Rattle.chc_core.specs.Views.{standing_of}
use Rattle.cert_derivations.specs.Claims.{DeriveFalse}
use Rattle.cert_derivations.specs.Lines.{fact_lines}
use Rattle.interpretations.specs.Definitions.{AreDefinitionsOf}
use Rattle.obligation_turn.specs.Turns.{IsThin}
use Rattle.answer_text.specs.declared.answer.Answer.{Answer}
use Rattle.answer_text.specs.declared.answer.Answer.TheVariants.{Sat, Unsat, Unknown}
use Rattle.answer_text.specs.declared.answer.UnknownCause.TheVariants.{Units, Stalled as StalledCause}
use Rattle.answer_text.specs.Printable.{IsAnswerText}
use Rattle.book_answers.specs.declared.opening.Opened.{Opened}
use Rattle.book_answers.specs.declared.opening.Opened.TheVariants.{Book, Refused}

-- a book over the clauses of a checked script
pub record IsBookOf (checked : Checked) (b : Contents) : Type 0 where
  pub arena : IsArena checked.script.terms.nodes
  pub legal : IsLegalScript checked.script
  pub system : system_reading checked ≡ Ok b.system

-- no derivation of false by the script's clauses has this height or less
abbrev pub HasNoLowFalse : Script → ℕ → Type 0
HasNoLowFalse script level = (h : ℕ) → h ≤ level → IsDerivableWithin script h None → ⊥

-- the answer at an end. Unsat: the lines of the facts on which false rests, which derive it by the script's clauses. Sat: the
-- definitions by the lemmas of the end's level or more, under which every assertion is true. Else the closed level and the cause:
-- the units are those that were given
abbrev pub IsAnswerAt : Script → Contents → End → Answer → Type 0
IsAnswerAt script b (UnsatEnd fact) answer =
    (steps : List ℕ) × AreSteps b.facts fact steps × (answer ≡ Unsat (fact_lines b.system (facts_of b.facts) steps)) × DeriveFalse script (fact_lines b.system (facts_of b.facts) steps)
IsAnswerAt script b (SatEnd level) answer =
    (definitions : List Definition) × (answer ≡ Sat definitions) × AreDefinitionsOf b.frames.lemmas level 0 script.preds definitions × IsSolution script definitions
IsAnswerAt script b (Spent units) answer = (answer ≡ Unknown b.level (Units units)) × (units ≡ b.given) × HasNoLowFalse script b.level
IsAnswerAt script b Stalled answer = (answer ≡ Unknown b.level StalledCause) × HasNoLowFalse script b.level

-- the printed answer at an end
pub record HasText (script : Script) (b : Contents) (e : End) (text : List ℕ) : Type 0 where
  pub answer : Answer
  pub answers : IsAnswerAt script b e answer
  pub printed : IsAnswerText script.preds answer text

-- the book that a script opens, with these units to spend and nothing written yet; or the script's refusal
abbrev pub IsOpened : Checked → ℕ → Opened → Type 0
IsOpened checked units (Book b) = IsBookOf checked b × (b.given ≡ units) × (b.journal ≡ []) × IsThin (standing_of b)
IsOpened checked units (Refused refusal) = system_reading checked ≡ Err refusal
