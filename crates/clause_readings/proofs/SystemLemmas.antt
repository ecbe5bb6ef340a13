-- Two scripts that the same commands spell have the same system of clauses, or the same refusal.
use Rattle.std.proofs.Common.{◌≡◌, ℕ, ◌+◌, List, [], ◌∷◌, map, refl, ap, sym, ◌∙◌}
use Rattle.std.specs.Prelude.{Option, Some, None, Result, Ok, Err}
use Rattle.term_tree.specs.declared.refusal.Refusal.{Refusal}
use Rattle.term_tree.specs.declared.script.Assertion.{Assertion}
use Rattle.term_tree.specs.declared.script.Pred.{Pred as Declared}
use Rattle.term_tree.specs.declared.script.Script.{Script}
use Rattle.term_tree.specs.declared.refusal.Checked.{Checked}
use Rattle.sort_check.specs.Commands.{Command}
use Rattle.sort_check.specs.Scripts.{IsScriptOf}
use Rattle.clause_form.specs.declared.clause.Clause.{Clause}
use Rattle.clause_form.specs.System.{Clauses}
use Rattle.clause_normal.specs.Reading.{all_clauses, clause_and_others, normal_reading, system_reading, unless_stopped}
use Rattle.clause_readings.specs.Layout.{AreCommandsLaid}
use Rattle.clause_readings.proofs.AssertionLemmas.{same_reading}
use Rattle.clause_readings.proofs.MeetingLemmas.{IsMet}
use Rattle.clause_readings.proofs.TwinLemmas.{AreTwins, all_twins}

module _ (s t : Script) where
  same_clauses : (index : ℕ) (asserts others : List Assertion) → AreTwins s t index asserts others → all_clauses s index asserts ≡ all_clauses t index others
  same_clauses index [] [] twins = refl
  same_clauses index [] (b ∷ others) twins = absurd twins
  same_clauses index (a ∷ asserts) [] twins = absurd twins
  same_clauses index (a ∷ asserts) (b ∷ others) twins =
      let twin = twins.0 in
      ap (λ (r : Result Clause Refusal). clause_and_others r (all_clauses s (index + 1) asserts))
      (same_reading (IsMet s.terms t.terms twin.tree a.term.0 b.term.0) s t twin.scripts index a b twin.assertions)
      ∙ ap (clause_and_others (normal_reading t index b)) (same_clauses (index + 1) asserts others twins.1)

  same_unless : s.preds ≡ t.preds → (stop : Option Refusal) (r : Result (List Clause) Refusal) → unless_stopped stop s r ≡ unless_stopped stop t r
  same_unless preds stop (Err refusal) = refl
  same_unless preds (Some refusal) (Ok clauses) = refl
  same_unless preds None (Ok clauses) =
      let made : List Declared → Result Clauses Refusal = λ ps. Ok (record { clauses = clauses; preds = map (λ p. p.args) ps }) in ap made preds

-- the system doesn't depend on how terms are numbered
pub same_system : (commands : List Command) (checked other : Checked) → AreCommandsLaid commands → IsScriptOf commands checked.script → IsScriptOf commands other.script → checked.stop ≡ other.stop
    → system_reading checked ≡ system_reading other
same_system commands checked other laid x y stops =
    let twins = all_twins checked.script other.script commands x y laid in
    ap (λ (stop : Option Refusal). unless_stopped stop checked.script (all_clauses checked.script 0 checked.script.asserts)) stops
    ∙ ap (unless_stopped other.stop checked.script) (same_clauses checked.script other.script 0 checked.script.asserts other.script.asserts twins)
    ∙ same_unless checked.script other.script (x.preds ∙ sym y.preds) other.stop (all_clauses other.script 0 other.script.asserts)
