-- The rows of the predicates, beside the facts.
use Rattle.std.specs.Prelude.{ℕ, ℤ, negsuc, ◌≡◌, ◌≢◌, ◌<◌, ◌≤◌, ◌↔◌, ◌-◌, ◌^◌, List, [], ◌∷◌, ◌++◌, drop, length, map, get_or, take, Some}
use Rattle.std.specs.List.{AllPairs, Contains, fold}
use Rattle.std.specs.Ordering.{int_cmp, int_eq}
use Rattle.std.specs.declared.cmp.Ordering.TheVariants.{Less}
use Rattle.std.specs.Cmp.Lexicographic.{slice_cmp, pointwise}
use Rattle.indexmap.specs.IndexMap.{insert_all}
use Rattle.derivations.specs.declared.fact.Fact.{Fact}
use Rattle.derivations.specs.declared.row.Row.{Row}
use Rattle.derivations.specs.Facts.{pred_of, tuple_of, AreOf, AreRecorded, Concludes}

-- x stands before y by its tuple, where T gives the tuple of a number
abbrev pub IsBelow : (ℕ → List ℤ) → ℕ → ℕ → Type 0
IsBelow T x y = slice_cmp int_cmp (T x) (T y) ≡ Less

-- the first value of a tuple, and - 2 ^ 63 for none: where the keys of two tuples differ, they stand as their keys
abbrev pub key_of : List ℤ → ℤ
key_of tuple = get_or tuple 0 (negsuc (2 ^ 63 - 1))

-- exactly the first rank numbers of a row have tuples below this one
pub record IsRank (T : ℕ → List ℤ) (row : List ℕ) (tuple : List ℤ) (rank : ℕ) : Type 0 where
  pub within : rank ≤ length row
  pub before : (k d : ℕ) → k < rank → slice_cmp int_cmp (T (get_or row k d)) tuple ≡ Less
  pub behind : (k d : ℕ) → rank ≤ k → k < length row → slice_cmp int_cmp (T (get_or row k d)) tuple ≢ Less

-- the tuple begins with these values
abbrev pub Begins : List ℤ → List ℤ → Type 0
Begins front tuple = take (length front) tuple ≡ front

-- from low on and before high the tuples of a row begin with these values, and the one at high doesn't
pub record IsRun (T : ℕ → List ℤ) (row : List ℕ) (front : List ℤ) (low high : ℕ) : Type 0 where
  pub after : low ≤ high
  pub within : high ≤ length row
  pub begins : (k d : ℕ) → low ≤ k → k < high → Begins front (T (get_or row k d))
  pub ends : (d : ℕ) → high < length row → Begins front (T (get_or row high d)) → ⊥

-- a tuple has a number in one of the parts
abbrev pub Holds : List (List (List ℤ × ℕ)) → List ℤ → ℕ → Type 0
Holds parts tuple n = (i : ℕ) × (i < length parts) × Contains (get_or parts i []) (tuple, n)

-- no tuple has two numbers
abbrev pub AreSingle : List (List (List ℤ × ℕ)) → Type 0
AreSingle parts = (tuple : List ℤ) (m n : ℕ) → Holds parts tuple m → Holds parts tuple n → m ≡ n

-- one tuple with its number, and then all that stands in other parts
abbrev pub joined : List (List (List ℤ × ℕ)) → List ℤ → ℕ → List (List ℤ × ℕ)
joined parts tuple n = fold (insert_all (pointwise int_eq)) ((tuple, n) ∷ []) parts

-- the first parts stay, and the others are joined with one more tuple
abbrev pub AreGrown : List (List (List ℤ × ℕ)) → List ℤ → ℕ → List (List (List ℤ × ℕ)) → Type 0
AreGrown old tuple n new = (k : ℕ) × (k ≤ length old) × (new ≡ take k old ++ joined (drop k old) tuple n ∷ [])

-- the facts of one predicate, by number and by tuple
pub record IsRow (facts : List Fact) (pred : ℕ) (row : Row) : Type 0 where
  pub numbers : AreOf facts pred row.by_number
  pub order : AllPairs (IsBelow (tuple_of facts)) row.by_tuple
  pub exact : (n : ℕ) → Contains row.by_tuple n ↔ ((n < length facts) × (pred_of facts n ≡ Some pred))
  pub keyed : row.keys ≡ map (λ n. key_of (tuple_of facts n)) row.by_tuple
  pub parts : (t : List ℤ) (n : ℕ) → Holds row.parts t n ↔ Concludes facts n (Some pred) t

abbrev pub empty : Row
empty = record { by_number = []; by_tuple = []; keys = []; parts = [] }

-- a predicate past the last row has no fact
pub record IsIndexed (rows : List Row) (facts : List Fact) : Type 0 where
  pub recorded : AreRecorded facts
  pub each : (pred : ℕ) → IsRow facts pred (get_or rows pred empty)
