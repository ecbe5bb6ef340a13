-- What is told of an input: a script, a line that is the marker, and an answer.
use Rattle.std.specs.Prelude.{◌≡◌, ℕ, List, length, take, drop, Ok, Err, ◌⊎◌}
use Rattle.term_tree.specs.declared.refusal.Checked.{Checked}
use Rattle.term_tree.specs.declared.refusal.Refusal.{Refusal}
use Rattle.sort_check.specs.Checked.{IsCheckedText}
use Rattle.sort_check.specs.Scripts.{IsRefused}
use Rattle.clause_form.specs.System.{Clauses}
use Rattle.clause_normal.specs.Reading.{system_reading}
use Rattle.check_input.specs.Cut.{HasNoMarker, IsCut}
use Rattle.chc_checker.specs.declared.verdict.Verdict.{Verdict}
use Rattle.chc_checker.specs.Verdicts.{Judges}
use Rattle.check_input.specs.Texts.{IsVerdictText}
use Rattle.check_input.specs.declared.outcome.Outcome.{Outcome}
use Rattle.check_input.specs.declared.outcome.Outcome.TheVariants.{Refused, Judged}

-- the script ends before the marker's line, and the answer begins behind it. Without a marker the script is the whole input, and an
-- empty answer stands at its end
abbrev pub IsParted : List ℕ → ℕ → ℕ → Type 0
IsParted input script answer = IsCut input script answer ⊎ (HasNoMarker input × (script ≡ length input) × (answer ≡ length input))

-- the checker's reading of the script's bytes
pub record IsReadAs (input : List ℕ) (script answer : ℕ) (checked : Checked) : Type 0 where
  pub parted : IsParted input script answer
  pub read : IsCheckedText (take script input) checked

-- the script is refused, before the answer is looked at
pub record RefusesScript (input : List ℕ) (refusal : Refusal) : Type 0 where
  pub script : ℕ
  pub answer : ℕ
  pub checked : Checked
  pub read_as : IsReadAs input script answer checked
  pub refused : system_reading checked ≡ Err refusal

-- the rules of commands refuse the script
pub record HasRefusedScript (input : List ℕ) (refusal : Refusal) : Type 0 where
  pub script : ℕ
  pub answer : ℕ
  pub parted : IsParted input script answer
  pub refused : IsRefused (take script input) refusal

-- the script has no refusal, however its terms are numbered
abbrev pub HasNoRefusal : List ℕ → Type 0
HasNoRefusal input = (script answer : ℕ) (checked : Checked) (refusal : Refusal) → IsReadAs input script answer checked → system_reading checked ≡ Err refusal → ⊥

-- it has no system of clauses, however its terms are numbered
abbrev pub HasNoSystemOfCheck : List ℕ → Type 0
HasNoSystemOfCheck input = (script answer : ℕ) (checked : Checked) (system : Clauses) → IsReadAs input script answer checked → system_reading checked ≡ Ok system → ⊥

-- the verdict on the answer's bytes, and its text
pub record JudgesInput (nodes : ℕ) (input : List ℕ) (verdict : Verdict) (text : List ℕ) : Type 0 where
  pub script : ℕ
  pub answer : ℕ
  pub checked : Checked
  pub read_as : IsReadAs input script answer checked
  pub system : Clauses
  pub accepted : system_reading checked ≡ Ok system
  pub judges : Judges nodes checked.script (drop answer input) verdict
  pub printed : IsVerdictText checked.script answer verdict text

abbrev pub TellsInput : ℕ → List ℕ → Outcome → Type 0
TellsInput nodes input (Refused refusal) = RefusesScript input refusal
TellsInput nodes input (Judged verdict text) = JudgesInput nodes input verdict text.items
