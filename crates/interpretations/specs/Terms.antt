-- The terms of lemmas: each literal of a cube over a predicate's parameters, the cube that is their conjunction, the lemma that
-- is its negation, and the conjunction of lemmas that defines a predicate.
use Rattle.std.specs.Prelude.{◌≡◌, ℕ, ◌<◌, ◌⊎◌, List, [], ◌∷◌, ◌++◌, ℤ, pos, neg_ℤ, nat_abs}
use Rattle.base.specs.Widths.{short_limit}
use Rattle.lin_atoms.specs.Linear.{Linear}
use Rattle.lin_atoms.specs.declared.lit.Lit.{Lit}
use Rattle.lin_atoms.specs.declared.lit.Lit.TheVariants.{Le as AtMost, Eq as Equal, Div, NDiv}
use Rattle.term_tree.specs.declared.sort.Sort.{Sort}
use Rattle.term_tree.specs.declared.node.TermId.{TermId}
use Rattle.term_tree.specs.declared.node.OpKind.{OpKind}
use Rattle.term_tree.specs.declared.node.OpKind.TheVariants.{Not, And, Eq, Le}
use Rattle.term_tree.specs.declared.node.Node.{Node}
use Rattle.term_tree.specs.declared.node.Node.TheVariants.{True, False, Op, Divisible}
use Rattle.answer_text.specs.Lemmas.{AreProducts, AreTerms, IsNode, IsNumber, IsSum}

-- each item has its term, in order
abbrev pub Each : {X : Type 0} → (X → TermId → Type 0) → List X → List TermId → Type 0
Each R [] [] = Unit {0}
Each R (x ∷ xs) (id ∷ ids) = R x id × Each R xs ids
Each R [] (id ∷ ids) = ⊥
Each R (x ∷ xs) [] = ⊥

-- the sum of terms, each a coefficient times an argument
pub record IsLinearOf (nodes : List Node) (sorts : List Sort) (terms : List (ℕ × ℤ)) (id : TermId) : Type 0 where
  pub items : List TermId
  pub ordered : AreTerms 0 terms
  pub products : AreProducts nodes sorts terms items
  pub sum : IsSum nodes items id

-- the sum of the terms, with the constant as its last item where it isn't 0
pub record IsShiftedOf (nodes : List Node) (sorts : List Sort) (lin : Linear) (id : TermId) : Type 0 where
  pub items : List TermId
  pub short : nat_abs lin.constant < short_limit
  pub ordered : AreTerms 0 lin.terms
  pub products : AreProducts nodes sorts lin.terms items
  pub sum : ((lin.constant ≡ pos 0) × IsSum nodes items id)
      ⊎ ((lin.constant ≡ pos 0 → ⊥) × ((k : TermId) × IsNumber nodes lin.constant k × IsSum nodes (items ++ k ∷ []) id))

-- (<= sum number) and (= sum number), where the number is the constant with the other sign
pub record IsComparisonOf (nodes : List Node) (sorts : List Sort) (op : OpKind) (lin : Linear) (id : TermId) : Type 0 where
  pub left : TermId
  pub right : TermId
  pub short : nat_abs (neg_ℤ lin.constant) < short_limit
  pub linear : IsLinearOf nodes sorts lin.terms left
  pub constant : IsNumber nodes (neg_ℤ lin.constant) right
  pub node : IsNode nodes id (Op op (left ∷ right ∷ []))

-- ((_ divisible n) sum)
pub record IsDivisibilityOf (nodes : List Node) (sorts : List Sort) (divisor : ℕ) (lin : Linear) (id : TermId) : Type 0 where
  pub sum : TermId
  pub positive : 0 < divisor
  pub short : divisor < short_limit
  pub shifted : IsShiftedOf nodes sorts lin sum
  pub node : IsNode nodes id (Divisible (pos divisor) sum)

-- the term of a literal: a comparison, a divisibility, or the negation of a divisibility
abbrev pub IsLiteralOf : List Node → List Sort → Lit → TermId → Type 0
IsLiteralOf nodes sorts (AtMost lin) id = IsComparisonOf nodes sorts Le lin id
IsLiteralOf nodes sorts (Equal lin) id = IsComparisonOf nodes sorts Eq lin id
IsLiteralOf nodes sorts (Div n lin) id = IsDivisibilityOf nodes sorts n lin id
IsLiteralOf nodes sorts (NDiv n lin) id = (d : TermId) × IsDivisibilityOf nodes sorts n lin d × IsNode nodes id (Op Not (d ∷ []))

-- true without a part, the part with one, a conjunction of more
abbrev pub IsJoined : List Node → List TermId → TermId → Type 0
IsJoined nodes [] id = IsNode nodes id True
IsJoined nodes (x ∷ []) id = id ≡ x
IsJoined nodes (x ∷ y ∷ xs) id = IsNode nodes id (Op And (x ∷ y ∷ xs))

-- the conjunction of the items' terms
pub record IsConjunctionOf {X : Type 0} (nodes : List Node) (R : X → TermId → Type 0) (items : List X) (id : TermId) : Type 0 where
  pub parts : List TermId
  pub each : Each R items parts
  pub joined : IsJoined nodes parts id

-- the negation of the cube; of the cube without literals, `false`
abbrev pub IsLemmaOf : List Node → List Sort → List Lit → TermId → Type 0
IsLemmaOf nodes sorts [] id = IsNode nodes id False
IsLemmaOf nodes sorts (lit ∷ lits) id =
    (cube : TermId) × IsConjunctionOf nodes (IsLiteralOf nodes sorts) (lit ∷ lits) cube × IsNode nodes id (Op Not (cube ∷ []))

-- the term of a list of lemmas, each named by the cube that it denies
abbrev pub IsDefiningTermOf : List Node → List Sort → List (List Lit) → TermId → Type 0
IsDefiningTermOf nodes sorts cubes id = IsConjunctionOf nodes (IsLemmaOf nodes sorts) cubes id
