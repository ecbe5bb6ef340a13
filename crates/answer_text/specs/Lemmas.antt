-- The terms that defining terms are: conjunctions of lemmas, each the negation of a cube of linear literals over the
-- arguments, in numbers below 2^63. Every term is one of SMT-LIB's theory Ints.
use Rattle.std.specs.Prelude.{◌≡◌, ℕ, ◌+◌, ◌<◌, ◌≤◌, ◌⊎◌, List, [], ◌∷◌, ◌++◌, length, Option, Some, None, slice_get, ℤ, pos, negsuc, nat_abs}
use Rattle.std.specs.List.{AllByRecursion}
use Rattle.base.specs.Widths.{short_limit}
use Rattle.term_tree.specs.declared.sort.Sort.{Sort}
use Rattle.term_tree.specs.declared.sort.Sort.TheVariants.{Int as IntSort, Bool as BoolSort}
use Rattle.term_tree.specs.declared.node.TermId.{TermId}
use Rattle.term_tree.specs.declared.node.OpKind.{OpKind}
use Rattle.term_tree.specs.declared.node.OpKind.TheVariants.{Not, And, Eq, Ite, Add, Mul, Sub, Le}
use Rattle.term_tree.specs.declared.node.Node.{Node}
use Rattle.term_tree.specs.declared.node.Node.TheVariants.{Num, True, False, Var, Op, Divisible}

-- the term of that number is there, and is this node
abbrev pub IsNode : List Node → TermId → Node → Type 0
IsNode nodes id node = slice_get nodes id.0 ≡ Some node

-- a numeral, or the negation of one that isn't 0
abbrev pub IsNumber : List Node → ℤ → TermId → Type 0
IsNumber nodes (pos n) id = IsNode nodes id (Num (pos n))
IsNumber nodes (negsuc n) id = (m : TermId) × IsNode nodes m (Num (pos (n + 1))) × IsNode nodes id (Op Sub (m ∷ []))

-- the argument of that number as an integer: xi, or (ite xi 1 0) for a Bool argument
abbrev pub IsArgument : List Node → ℕ → Option Sort → TermId → Type 0
IsArgument nodes i None id = ⊥
IsArgument nodes i (Some IntSort) id = IsNode nodes id (Var i IntSort)
IsArgument nodes i (Some BoolSort) id =
    (x : TermId) × (one : TermId) × (nought : TermId) × IsNode nodes x (Var i BoolSort) × IsNode nodes one (Num (pos 1)) × IsNode nodes nought (Num (pos 0))
    × IsNode nodes id (Op Ite (x ∷ one ∷ nought ∷ []))

-- an argument, or (* coefficient argument) for a coefficient that isn't 1
abbrev pub IsProduct : List Node → List Sort → ℕ × ℤ → TermId → Type 0
IsProduct nodes sorts t id =
    ((t.1 ≡ pos 1) × IsArgument nodes t.0 (slice_get sorts t.0) id)
    ⊎ ((t.1 ≡ pos 1 → ⊥) × ((k : TermId) × (x : TermId) × IsNumber nodes t.1 k × IsArgument nodes t.0 (slice_get sorts t.0) x × IsNode nodes id (Op Mul (k ∷ x ∷ []))))

-- the terms are the products for these coefficients and places, in the same order and as many
abbrev pub AreProducts : List Node → List Sort → List (ℕ × ℤ) → List TermId → Type 0
AreProducts nodes sorts [] [] = Unit {0}
AreProducts nodes sorts (t ∷ ts) (id ∷ ids) = IsProduct nodes sorts t id × AreProducts nodes sorts ts ids
AreProducts nodes sorts [] (id ∷ ids) = ⊥
AreProducts nodes sorts (t ∷ ts) [] = ⊥

-- coefficients by argument place, from this place on; none is 0
abbrev pub AreTerms : ℕ → List (ℕ × ℤ) → Type 0
AreTerms from [] = Unit {0}
AreTerms from (t ∷ ts) = (from ≤ t.0) × (t.1 ≡ pos 0 → ⊥) × (nat_abs t.1 < short_limit) × AreTerms (t.0 + 1) ts

-- 0 without an item, the item with one, a sum of more
abbrev pub IsSum : List Node → List TermId → TermId → Type 0
IsSum nodes [] id = IsNode nodes id (Num (pos 0))
IsSum nodes (x ∷ []) id = id ≡ x
IsSum nodes (x ∷ y ∷ xs) id = IsNode nodes id (Op Add (x ∷ y ∷ xs))

-- the sum of the terms
pub record IsLinear (nodes : List Node) (sorts : List Sort) (id : TermId) : Type 0 where
  pub terms : List (ℕ × ℤ)
  pub items : List TermId
  pub ordered : AreTerms 0 terms
  pub products : AreProducts nodes sorts terms items
  pub sum : IsSum nodes items id

-- the sum of the terms, with a constant as its last item where it isn't 0
pub record IsShifted (nodes : List Node) (sorts : List Sort) (id : TermId) : Type 0 where
  pub terms : List (ℕ × ℤ)
  pub items : List TermId
  pub constant : ℤ
  pub short : nat_abs constant < short_limit
  pub ordered : AreTerms 0 terms
  pub products : AreProducts nodes sorts terms items
  pub sum : ((constant ≡ pos 0) × IsSum nodes items id) ⊎ ((constant ≡ pos 0 → ⊥) × ((k : TermId) × IsNumber nodes constant k × IsSum nodes (items ++ k ∷ []) id))

-- (<= sum number) and (= sum number)
pub record IsComparison (nodes : List Node) (sorts : List Sort) (op : OpKind) (id : TermId) : Type 0 where
  pub left : TermId
  pub right : TermId
  pub number : ℤ
  pub short : nat_abs number < short_limit
  pub linear : IsLinear nodes sorts left
  pub constant : IsNumber nodes number right
  pub node : IsNode nodes id (Op op (left ∷ right ∷ []))

-- ((_ divisible n) sum)
pub record IsDivisibility (nodes : List Node) (sorts : List Sort) (id : TermId) : Type 0 where
  pub divisor : ℕ
  pub sum : TermId
  pub positive : 0 < divisor
  pub short : divisor < short_limit
  pub shifted : IsShifted nodes sorts sum
  pub node : IsNode nodes id (Divisible (pos divisor) sum)

-- a comparison by <= or =, a divisibility, or the negation of a divisibility; comparisons aren't negated
abbrev pub IsLiteral : List Node → List Sort → TermId → Type 0
IsLiteral nodes sorts id =
    IsComparison nodes sorts Le id ⊎ (IsComparison nodes sorts Eq id ⊎ (IsDivisibility nodes sorts id
    ⊎ ((d : TermId) × IsDivisibility nodes sorts d × IsNode nodes id (Op Not (d ∷ [])))))

-- a literal, or a conjunction of more
abbrev pub IsCube : List Node → List Sort → TermId → Type 0
IsCube nodes sorts id =
    IsLiteral nodes sorts id ⊎ ((literals : List TermId) × (2 ≤ length literals) × AllByRecursion (IsLiteral nodes sorts) literals × IsNode nodes id (Op And literals))

-- false for a cube without literals, else the negation of the cube
abbrev pub IsLemma : List Node → List Sort → TermId → Type 0
IsLemma nodes sorts id = IsNode nodes id False ⊎ ((cube : TermId) × IsCube nodes sorts cube × IsNode nodes id (Op Not (cube ∷ [])))

-- true without a lemma, the lemma with one, a conjunction of more
abbrev pub IsDefiningTerm : List Node → List Sort → TermId → Type 0
IsDefiningTerm nodes sorts id =
    IsNode nodes id True ⊎ (IsLemma nodes sorts id
    ⊎ ((lemmas : List TermId) × (2 ≤ length lemmas) × AllByRecursion (IsLemma nodes sorts) lemmas × IsNode nodes id (Op And lemmas)))
