-- Links: two variables of which each is 1 exactly where the other one is, or exactly where it isn't.
use Rattle.std.specs.Prelude.{◌≡◌, ℕ, ℤ, pos, negsuc, ◌≤ℤ◌, List, [], ◌∷◌, Some, Bool, true, false, not, slice_get}
use Rattle.lin_atoms.specs.Linear.{Linear, variable_at}
use Rattle.lin_atoms.specs.Truth.{truth}
use Rattle.lin_atoms.specs.declared.form.Form.{Form}
use Rattle.linear_terms.specs.Meeting.{truth_number}

-- formulas are true at the same points over the integers
abbrev pub SayTheSame : Form → Form → Type 0
SayTheSame form other = (point : List ℤ) → truth point other ≡ truth point form

-- the second variable is the first one's value, or the other one of 0 and 1
abbrev pub partner : Bool → Bool → Bool
partner true value = value
partner false value = not value

pub record AreLinked (u v : ℕ) (same : Bool) (point : List ℤ) : Type 0 where
  pub value : Bool
  pub first : variable_at point u ≡ truth_number value
  pub second : variable_at point v ≡ truth_number (partner same value)

-- as one literal, between bounds of the first one
abbrev pub link_form : ℕ → ℕ → Bool → Linear
link_form u v true = record { terms = (u, pos 1) ∷ (v, negsuc 0) ∷ []; constant = pos 0 }
link_form u v false = record { terms = (u, pos 1) ∷ (v, pos 1) ∷ []; constant = negsuc 0 }

-- the variables that are marked are at least 0, and at most 1
abbrev pub AreLeast : List Bool → List ℤ → Type 0
AreLeast table point = (v : ℕ) → slice_get table v ≡ Some true → pos 0 ≤ℤ variable_at point v

abbrev pub AreMost : List Bool → List ℤ → Type 0
AreMost table point = (v : ℕ) → slice_get table v ≡ Some true → variable_at point v ≤ℤ pos 1

pub record AreWithin (low high : List Bool) (point : List ℤ) : Type 0 where
  pub least : AreLeast low point
  pub most : AreMost high point

-- where the marks are right, the formula is true exactly where the variable has that value
pub record IsValue (low high : List Bool) (form : Form) (v : ℕ) (value : Bool) : Type 0 where
  pub made : (point : List ℤ) → variable_at point v ≡ truth_number value → truth point form ≡ true
  pub only : (point : List ℤ) → AreWithin low high point → truth point form ≡ true → variable_at point v ≡ truth_number value

-- exactly where both have
pub record AreValues (low high : List Bool) (form : Form) (u : ℕ) (first : Bool) (v : ℕ) (second : Bool) : Type 0 where
  pub made : (point : List ℤ) → variable_at point u ≡ truth_number first → variable_at point v ≡ truth_number second → truth point form ≡ true
  pub only : (point : List ℤ) → AreWithin low high point → truth point form ≡ true → (variable_at point u ≡ truth_number first) × (variable_at point v ≡ truth_number second)

-- exactly where they are linked
pub record IsLink (low high : List Bool) (form : Form) (u v : ℕ) (same : Bool) : Type 0 where
  pub made : (point : List ℤ) → AreLinked u v same point → truth point form ≡ true
  pub only : (point : List ℤ) → AreWithin low high point → truth point form ≡ true → AreLinked u v same point

-- the other formula is true exactly where they are, whatever is marked
pub record IsLinkForm (u v : ℕ) (same : Bool) (form : Form) : Type 0 where
  pub made : (point : List ℤ) → AreLinked u v same point → truth point form ≡ true
  pub only : (point : List ℤ) → truth point form ≡ true → AreLinked u v same point

-- the other formula is true only where this one is; where the marks are right, wherever it is
pub record Replaces (low high : List Bool) (form other : Form) : Type 0 where
  pub sound : (point : List ℤ) → truth point other ≡ true → truth point form ≡ true
  pub whole : (point : List ℤ) → AreWithin low high point → truth point form ≡ true → truth point other ≡ true
