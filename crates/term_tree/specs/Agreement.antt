-- Interpretations that can't be told apart, and examples that laws speak of.
use Rattle.std.specs.Prelude.{◌≡◌, ◌<◌, ℕ, pos, List, [], ◌∷◌, true}
use Rattle.term_tree.specs.declared.sort.Sort.TheVariants.{Int as IntSort}
use Rattle.term_tree.specs.declared.node.OpKind.TheVariants.{Ge}
use Rattle.term_tree.specs.declared.node.Node.{Node}
use Rattle.term_tree.specs.declared.node.Node.TheVariants.{Num, Var, Op, Forall}
use Rattle.term_tree.specs.declared.scalar.Value.{Value}
use Rattle.term_tree.specs.declared.scalar.Value.TheVariants.{Bool as Truth}
use Rattle.term_tree.specs.Truth.{Interpretation}

-- the two give every predicate the same value everywhere
abbrev pub AgreeEverywhere : Interpretation → Interpretation → Type 0
AgreeEverywhere I J = (pred : ℕ) (values : List Value) → I pred values ≡ J pred values

-- each predicate below n has the value true everywhere
abbrev pub IsTrueBelow : ℕ → Interpretation → Type 0
IsTrueBelow n I = (pred : ℕ) (values : List Value) → pred < n → I pred values ≡ Truth true

-- every predicate is true everywhere
abbrev pub all_true : Interpretation
all_true pred values = Truth true

-- (forall ((x Int)) (>= x 0)), as term 3
abbrev pub all_positive : List Node
all_positive =
    Var 0 IntSort ∷ Num (pos 0) ∷ Op Ge (record { 0 = 0 } ∷ record { 0 = 1 } ∷ []) ∷ Forall 0 (IntSort ∷ []) (record { 0 = 2 }) ∷ []
