-- A verdict on an input is one on what its answer spells.
use Rattle.std.proofs.Common.{◌≡◌, ℕ, List, sym, subst, ◌∙◌, ⊎_elim}
use Rattle.std.specs.Prelude.{ℤ, Option, None, Some}
use Rattle.term_tree.specs.declared.definition.Definition.{Definition}
use Rattle.term_tree.specs.declared.script.Pred.{Pred}
use Rattle.term_tree.specs.declared.script.Script.{Script}
use Rattle.term_tree.specs.Solution.{IsSolution}
use Rattle.clause_form.specs.declared.clause.Clause.{Clause}
use Rattle.clause_normal.specs.Normal.{normal_clause}
use Rattle.clause_laws.specs.Defined.{breaking_wide}
use Rattle.answer_text.specs.declared.answer.Answer.{Answer}
use Rattle.answer_text.specs.declared.answer.Answer.TheVariants.{Sat, Unsat, Unknown}
use Rattle.answer_text.specs.declared.answer.Line.{Line}
use Rattle.answer_text.specs.Read.{IsBad, Spells}
use Rattle.answer_text.proofs.Public.{alone_law}
use Rattle.answer_text.proofs.LawLemmas.{both_law}
use Rattle.chc_checker.specs.declared.verdict.Place.TheVariants.{Byte, Instance}
use Rattle.chc_checker.specs.declared.verdict.Verdict.{Verdict}
use Rattle.chc_checker.specs.declared.verdict.Verdict.TheVariants.{Wrong}
use Rattle.chc_checker.specs.Verdicts.{HaveRoomUnder, IsValid, IsWrong, Judges, Says}

-- one on these lines, where it spells the lines of a derivation
pub said : (nodes : ℕ) (script : Script) (text : List ℕ) (lines : List Line) (verdict : Verdict) → Judges nodes script text verdict → Spells script.preds text (Unsat lines) → Says nodes script (Unsat lines) verdict
said nodes script text lines verdict judges spells =
    ⊎_elim
    (λ told. subst (λ (answer : Answer). Says nodes script answer verdict) (alone_law script.preds text lines told.0 spells told.1) told.3)
    (λ bad. absurd (both_law script.preds text (Unsat lines) bad.0 spells bad.1))
    judges

-- where a text spells a solution, whatever definitions it spells are one
abbrev pub SolvedLaw : Type 0
SolvedLaw = (script : Script) (text : List ℕ) (definitions others : List Definition) → IsSolution script definitions → Spells script.preds text (Sat definitions) → Spells script.preds text (Sat others)
    → IsSolution script others

-- and they ask the same of each clause
abbrev pub AsksLaw : Type 0
AsksLaw = (preds : List Pred) (text : List ℕ) (definitions others : List Definition) (clause : Clause) → Spells preds text (Sat definitions) → Spells preds text (Sat others)
    → breaking_wide definitions clause ≡ breaking_wide others clause

module _ (script : Script) (text : List ℕ) (definitions : List Definition) (spells : Spells script.preds text (Sat definitions)) where
  -- it has no fault
  no_fault : {A : Type 0} (offset : ℕ) → IsBad script.preds text offset → A
  no_fault offset bad = absurd (both_law script.preds text (Sat definitions) offset spells bad)

  module _ (solved : SolvedLaw) (unbroken : (others : List Definition) (number : ℕ) (integers : List ℤ) → IsValid script (Sat others) → IsWrong script (Sat others) (Instance number integers) → ⊥) where
    not_said : (nodes number : ℕ) (integers : List ℤ) (answer : Answer) → IsSolution script definitions → Spells script.preds text answer → Says nodes script answer (Wrong (Instance number integers)) → ⊥
    not_said nodes number integers (Sat others) solution reads says = unbroken others number integers (solved script text definitions others solution spells reads) says
    not_said nodes number integers (Unsat lines) solution reads says = absurd says
    not_said nodes number integers (Unknown level cause) solution reads says = absurd says

    -- a solution is wrong at no instance
    pub no_instance : (nodes number : ℕ) (integers : List ℤ) (verdict : Verdict) → IsSolution script definitions → Judges nodes script text verdict → verdict ≡ Wrong (Instance number integers) → ⊥
    no_instance nodes number integers verdict solution judges is =
        ⊎_elim
        (λ told. not_said nodes number integers told.0 solution told.1 told.3)
        (λ bad. no_fault bad.0 bad.1)
        (subst (Judges nodes script text) is judges)

  no_place : (found : Option ℕ) (offset : ℕ) → found ≡ None → found ≡ Some offset → ⊥
  no_place found offset none some = let e : (let o : Option ℕ = None in o) ≡ Some offset = sym none ∙ some in absurd (cc)

  no_byte_of : (nodes offset : ℕ) (answer : Answer) → AsksLaw → HaveRoomUnder script definitions → Spells script.preds text answer → Says nodes script answer (Wrong (Byte offset)) → ⊥
  no_byte_of nodes offset (Sat others) asks room reads says =
      no_place (breaking_wide definitions (normal_clause script says.clause)) offset (room says.reached.index says.clause says.reached.is)
      (asks script.preds text definitions others (normal_clause script says.clause) spells reads ∙ says.wide)
  no_byte_of nodes offset (Unsat lines) asks room reads says = absurd says
  no_byte_of nodes offset (Unknown level cause) asks room reads says = absurd says

  -- definitions under which every number has room are wrong at no byte
  pub no_byte : (nodes offset : ℕ) (verdict : Verdict) → AsksLaw → HaveRoomUnder script definitions → Judges nodes script text verdict → verdict ≡ Wrong (Byte offset) → ⊥
  no_byte nodes offset verdict asks room judges is =
      ⊎_elim
      (λ told. no_byte_of nodes offset told.0 asks room told.1 told.3)
      (λ bad. no_fault bad.0 bad.1)
      (subst (Judges nodes script text) is judges)
