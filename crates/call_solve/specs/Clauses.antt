-- The whole check of a text: its commands, and then the clause of each assertion in turn.
use Rattle.std.specs.Prelude.{◌≡◌, ℕ, ◌<◌, ◌≤◌, List, length, Ok, Err}
use Rattle.base.specs.Limits.{most_bytes}
use Rattle.term_tree.specs.declared.refusal.Checked.{Checked}
use Rattle.term_tree.specs.declared.refusal.Refusal.{Refusal}
use Rattle.term_tree.specs.declared.refusal.Kind.TheVariants.{TooLong}
use Rattle.sort_check.specs.Checked.{IsCheckedText}
use Rattle.clause_form.specs.System.{Clauses}
use Rattle.clause_normal.specs.Reading.{system_reading}

-- the refusal of a text
pub data IsInputRefused (text : List ℕ) (refusal : Refusal) : Type 0 where
  too_long : most_bytes < length text → refusal ≡ record { kind = TooLong; offset = most_bytes; command = 0 } → IsInputRefused text refusal
  illegal : (checked : Checked) → length text ≤ most_bytes → IsCheckedText text checked → system_reading checked ≡ Err refusal → IsInputRefused text refusal

-- no refusal of the text, however its terms are numbered
pub record IsUnrefused (text : List ℕ) : Type 0 where
  pub short : length text ≤ most_bytes
  pub legal : (checked : Checked) (refusal : Refusal) → IsCheckedText text checked → system_reading checked ≡ Err refusal → ⊥

-- no system of the text, however its terms are numbered
abbrev pub HasNoSystem : List ℕ → Type 0
HasNoSystem text = (checked : Checked) (system : Clauses) → IsCheckedText text checked → system_reading checked ≡ Ok system → ⊥
