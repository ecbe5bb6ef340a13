-- Which disjunction is split.
use Rattle.std.specs.Prelude.{◌≡◌, ℕ, ◌<◌, ◌≤◌, List, length, ℤ, false, Some, slice_get}
use Rattle.std.specs.List.{list_any}
use Rattle.lin_atoms.specs.Truth.{truth}
use Rattle.lin_atoms.specs.declared.form.Form.{Form}

-- of the disjunctions before `end` that are false at the point, the first of those with the fewest parts
pub record IsFewest (point : List ℤ) (cases : List (List Form)) (end found : ℕ) : Type 0 where
  pub parts : List Form
  pub there : slice_get cases found ≡ Some parts
  pub broken : list_any (truth point) parts ≡ false
  pub least : (k : ℕ) (others : List Form) → slice_get cases k ≡ Some others → k < end → list_any (truth point) others ≡ false → length parts ≤ length others
  pub first : (k : ℕ) (others : List Form) → slice_get cases k ≡ Some others → k < found → list_any (truth point) others ≡ false → length parts < length others
