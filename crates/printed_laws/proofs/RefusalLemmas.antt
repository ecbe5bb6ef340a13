-- One reading of bytes tells whether they have a refusal.
use Rattle.std.proofs.Common.{◌≡◌, ◌≤◌, ℕ, List, length, sym, ◌∙◌, subst}
use Rattle.std.specs.Prelude.{Result, Ok, Err, take}
use Rattle.base.specs.Limits.{most_bytes}
use Rattle.term_tree.specs.declared.refusal.Checked.{Checked}
use Rattle.term_tree.specs.declared.refusal.Refusal.{Refusal}
use Rattle.sort_check.specs.Checked.{IsCheckedText}
use Rattle.clause_form.specs.System.{Clauses}
use Rattle.clause_normal.specs.Reading.{system_reading}
use Rattle.clause_readings.proofs.TextLemmas.{one_system}
use Rattle.check_input.specs.Inputs.{HasNoSystemOfCheck, IsReadAs}
use Rattle.check_input.proofs.PartLemmas.{one_script}
use Rattle.call_solve.specs.Clauses.{HasNoSystem, IsUnrefused}
use Rattle.call_check.specs.Calls.{IsUnrefusedCheck}

not_both : (bytes : List ℕ) (checked other : Checked) (system : Clauses) (refusal : Refusal) → IsCheckedText bytes checked → IsCheckedText bytes other → system_reading checked ≡ Ok system
    → system_reading other ≡ Err refusal → ⊥
not_both bytes checked other system refusal x y is refused =
    let made : Result Clauses Refusal = Ok system in
    let broken : Result Clauses Refusal = Err refusal in
    let both : made ≡ broken = sym is ∙ one_system bytes checked other x y ∙ refused in
    cc

-- the bytes before the marker are the same, however they are read
beside : (input : List ℕ) (script answer other last : ℕ) (checked next : Checked) → IsReadAs input script answer checked → IsReadAs input other last next → IsCheckedText (take script input) next
beside input script answer other last checked next x y = subst (λ (n : ℕ). IsCheckedText (take n input) next) (one_script input other script last answer y.parted x.parted) y.read

pub is_unrefused : (bytes : List ℕ) (checked : Checked) (system : Clauses) → length bytes ≤ most_bytes → IsCheckedText bytes checked → system_reading checked ≡ Ok system → IsUnrefused bytes
is_unrefused bytes checked system short x is = record { short = short; legal = λ other refusal y refused. not_both bytes checked other system refusal x y is refused }

pub has_no_system : (bytes : List ℕ) (checked : Checked) (refusal : Refusal) → IsCheckedText bytes checked → system_reading checked ≡ Err refusal → HasNoSystem bytes
has_no_system bytes checked refusal x refused other system y is = not_both bytes other checked system refusal y x is refused

pub is_unrefused_check : (input : List ℕ) (script answer : ℕ) (checked : Checked) (system : Clauses) → length input ≤ most_bytes → IsReadAs input script answer checked
    → system_reading checked ≡ Ok system → IsUnrefusedCheck input
is_unrefused_check input script answer checked system short x is = record {
  short = short;
  script = λ other last next refusal y refused. not_both (take script input) checked next system refusal x.read (beside input script answer other last checked next x y) is refused;
}

pub has_no_system_of_check : (input : List ℕ) (script answer : ℕ) (checked : Checked) (refusal : Refusal) → IsReadAs input script answer checked → system_reading checked ≡ Err refusal → HasNoSystemOfCheck input
has_no_system_of_check input script answer checked refusal x refused other last next system y is =
    not_both (take script input) next checked system refusal (beside input script answer other last checked next x y) x.read is refused
