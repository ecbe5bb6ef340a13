-- How the numbers of one predicate's lemmas stand in a row, where L gives the level of a number.
use Rattle.std.specs.Prelude.{ℕ, ◌≡◌, ◌<◌, ◌≤◌, List, length, get_or}
use Rattle.std.specs.List.{insert, remove}

-- x stands before a place of this level and number
abbrev pub IsBefore : (ℕ → ℕ) → ℕ → ℕ → ℕ → Type 0
IsBefore L level number x = (level ≤ L x) × (L x ≡ level → x < number)

-- x stands at it or behind it
abbrev pub IsBehind : (ℕ → ℕ) → ℕ → ℕ → ℕ → Type 0
IsBehind L level number x = (L x ≤ level) × (L x ≡ level → number ≤ x)

-- exactly the first rank numbers of a row stand before the place of this level and number
pub record IsRank (L : ℕ → ℕ) (row : List ℕ) (level number rank : ℕ) : Type 0 where
  pub within : rank ≤ length row
  pub before : (k d : ℕ) → k < rank → IsBefore L level number (get_or row k d)
  pub behind : (k d : ℕ) → rank ≤ k → k < length row → IsBehind L level number (get_or row k d)

-- the row with one number more, at the place of this level and number
pub record IsPlaced (L : ℕ → ℕ) (row : List ℕ) (level number : ℕ) (longer : List ℕ) : Type 0 where
  pub rank : ℕ
  pub is : IsRank L row level number rank
  pub items : longer ≡ insert row rank number

-- the row without one of its numbers
pub record IsWithout (row : List ℕ) (number : ℕ) (shorter : List ℕ) : Type 0 where
  pub place : ℕ
  pub within : place < length row
  pub at : get_or row place 0 ≡ number
  pub items : shorter ≡ remove row place
