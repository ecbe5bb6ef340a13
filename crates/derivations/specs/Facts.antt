-- Derivations by hyperresolution (Komuravelli, Gurfinkel and Chaki, "SMT-based model checking for recursive programs",
-- section 2): each fact is the head of an instance of a clause, and names for each body atom an earlier fact.
use Rattle.std.specs.Prelude.{ℕ, ℤ, ◌≡◌, ◌<◌, ◌+◌, ◌↔◌, max, List, [], ◌∷◌, ◌++◌, map, length, get_or, take, Option, Some, None}
use Rattle.std.specs.List.{All, AllPairs, Contains, fold}
use Rattle.std.specs.Ordering.{int_cmp}
use Rattle.std.specs.declared.cmp.Ordering.TheVariants.{Less}
use Rattle.std.specs.Cmp.Lexicographic.{slice_cmp}
use Rattle.derivations.specs.declared.fact.Fact.{Fact}

-- the predicate of fact n, none for false
abbrev pub pred_of : List Fact → ℕ → Option ℕ
pred_of facts n = get_or (map (λ f. f.pred) facts) n None

abbrev pub tuple_of : List Fact → ℕ → List ℤ
tuple_of facts n = get_or (map (λ f. f.tuple) facts) n []

-- the facts from which fact n was concluded, one for each body atom; none where there is no fact n
abbrev pub fact_premises : List Fact → ℕ → List ℕ
fact_premises facts n = get_or (map (λ f. f.premises) facts) n []

-- fact n concludes that the tuple is in the predicate
abbrev pub Concludes : List Fact → ℕ → Option ℕ → List ℤ → Type 0
Concludes facts n pred tuple = (n < length facts) × (pred_of facts n ≡ pred) × (tuple_of facts n ≡ tuple)

-- where a fact is of false, its tuple is empty
abbrev pub IsBare : Fact → Type 0
IsBare fact = fact.pred ≡ None → fact.tuple ≡ []

-- premises are earlier facts, nothing is concluded twice, and false has no tuple
pub record AreRecorded (facts : List Fact) : Type 0 where
  pub earlier : (n : ℕ) → n < length facts → All (λ p. p < n) (fact_premises facts n)
  pub distinct : (m n : ℕ) → m < length facts → n < length facts → pred_of facts m ≡ pred_of facts n → tuple_of facts m ≡ tuple_of facts n → m ≡ n
  pub bare : (n : ℕ) → n < length facts → pred_of facts n ≡ None → tuple_of facts n ≡ []

-- exactly the facts of the predicate, in order of number
pub record AreOf (facts : List Fact) (pred : ℕ) (numbers : List ℕ) : Type 0 where
  pub order : AllPairs (λ x y. x < y) numbers
  pub exact : (n : ℕ) → Contains numbers n ↔ ((n < length facts) × (pred_of facts n ≡ Some pred))

-- the tuple of fact m stands before that of fact n: it is less at the first place that differs, or fact n's begins with it
abbrev pub StandsBefore : List Fact → ℕ → ℕ → Type 0
StandsBefore facts m n = slice_cmp int_cmp (tuple_of facts m) (tuple_of facts n) ≡ Less

-- exactly the facts of the predicate whose tuples begin with these values, in order of tuple
pub record AreUnder (facts : List Fact) (pred : ℕ) (front : List ℤ) (numbers : List ℕ) : Type 0 where
  pub order : AllPairs (StandsBefore facts) numbers
  pub exact : (n : ℕ) → Contains numbers n ↔ ((n < length facts) × (pred_of facts n ≡ Some pred) × (take (length front) (tuple_of facts n) ≡ front))

-- the greatest of these numbers, 0 for none
abbrev pub greatest : List ℕ → ℕ
greatest = fold max 0

-- a fact's height is 1 plus the greatest height of its premises, 0 for none
abbrev pub with_height : List ℕ → Fact → List ℕ
with_height heights fact = heights ++ (1 + greatest (map (λ p. get_or heights p 0) fact.premises)) ∷ []

-- the heights of all facts, in order of number
abbrev pub heights : List Fact → List ℕ
heights = fold with_height []

-- the height of fact n, 1 where it has no premises; 0 where there is no fact n
abbrev pub height_of : List Fact → ℕ → ℕ
height_of facts n = get_or (heights facts) n 0

-- fact n rests on itself, and on all on which one of its premises rests
pub data RestsOn (facts : List Fact) : ℕ → ℕ → Type 0 where
  itself : {n : ℕ} → RestsOn facts n n
  through : {n m : ℕ} (p : ℕ) → Contains (fact_premises facts n) p → RestsOn facts p m → RestsOn facts n m

-- exactly the facts on which fact n rests, in order of number
pub record AreSteps (facts : List Fact) (n : ℕ) (steps : List ℕ) : Type 0 where
  pub order : AllPairs (λ x y. x < y) steps
  pub exact : (m : ℕ) → Contains steps m ↔ RestsOn facts n m
