-- The terms of the rows: x and y are integers, b and c truth values, and u is the auxiliary variable of `(<= x y)`.
use Rattle.std.specs.Prelude.{◌≡◌, ℕ, List, [], ◌∷◌, ◌++◌, map, Option, Some, ℤ, pos, nat_lt, if◌then◌else◌}
use Rattle.std.specs.Ordering.{nat_cmp}
use Rattle.std.specs.BTreeMap.{BTreeMap, get}
use Rattle.term_tree.specs.declared.sort.Sort.TheVariants.{Int as IntSort, Bool as BoolSort}
use Rattle.term_tree.specs.declared.node.TermId.{TermId}
use Rattle.term_tree.specs.declared.node.OpKind.{OpKind}
use Rattle.term_tree.specs.declared.node.OpKind.TheVariants.{Not, And, Or, Xor, Implies, Eq, Distinct, Ite, Add, Sub, Abs, Div, Mod, Le, Lt, Ge, Gt}
use Rattle.term_tree.specs.declared.node.Node.{Node}
use Rattle.term_tree.specs.declared.node.Node.TheVariants.{Num, True, False, Var, LetVar, Op, Divisible, Let}
use Rattle.term_tables.specs.machinery.Table.{AreConstants}

-- a number from 1000 on is no term
abbrev pub chosen_one : ℕ → List TermId
chosen_one id = if nat_lt id 1000 then record { 0 = id } ∷ [] else []

abbrev pub chosen : ℕ → ℕ → ℕ → List TermId
chosen a b c = chosen_one a ++ (chosen_one b ++ chosen_one c)

abbrev pub made_of : OpKind × ℕ × ℕ × ℕ → Node
made_of row = Op row.0 (chosen row.1 row.2 row.3)

-- x, y, b, c, true, false, 2 and 7
abbrev pub variables : List Node
variables = Var 0 IntSort ∷ Var 1 IntSort ∷ Var 2 BoolSort ∷ Var 3 BoolSort ∷ []

abbrev pub constants : List Node
constants = True ∷ False ∷ Num (pos 2) ∷ Num (pos 7) ∷ []

-- term 8 is x <= y, 9 a name of it, 10 a `let` of that, 11 says that 3 divides x, and 12 is a name of b
abbrev pub named : List Node
named = made_of (Le, 0, 1, 1000) ∷ LetVar (record { 0 = 8 }) ∷ Let (record { 0 = 8 } ∷ []) (record { 0 = 9 }) ∷ Divisible (pos 3) (record { 0 = 0 }) ∷ LetVar (record { 0 = 2 }) ∷ []

-- the terms from 13 on
abbrev pub operations : List (OpKind × ℕ × ℕ × ℕ)
operations =
    (Not, 2, 1000, 1000) ∷ (And, 2, 3, 1000) ∷ (Or, 2, 3, 1000) ∷ (Implies, 2, 3, 1000) ∷ (Xor, 2, 3, 1000)
    ∷ (Eq, 2, 3, 1000) ∷ (Distinct, 2, 3, 1000) ∷ (Eq, 0, 1, 1000) ∷ (Distinct, 0, 1, 1000)
    ∷ (Lt, 0, 1, 1000) ∷ (Ge, 0, 1, 1000) ∷ (Gt, 0, 1, 1000) ∷ (Ite, 2, 8, 22)
    ∷ (Ite, 2, 0, 1) ∷ (Abs, 0, 1000, 1000) ∷ (Sub, 6, 1000, 1000) ∷ (Div, 0, 28, 1000) ∷ (Mod, 0, 28, 1000) ∷ (Add, 0, 6, 1000)
    ∷ (Eq, 0, 1, 31) ∷ (Distinct, 0, 1, 31) ∷ (Lt, 0, 1, 31) ∷ (Eq, 2, 3, 4) ∷ (Distinct, 2, 3, 4) ∷ (Xor, 2, 3, 4)
    ∷ (Implies, 2, 3, 8) ∷ (And, 9, 1000, 1000) ∷ (Eq, 8, 9, 1000) ∷ (Xor, 8, 5, 1000) ∷ (Ite, 8, 2, 3)
    ∷ (Sub, 7, 1000, 1000) ∷ (Div, 43, 6, 1000) ∷ (Mod, 43, 6, 1000)
    ∷ []

abbrev pub row_terms : List Node
row_terms = variables ++ (constants ++ (named ++ map made_of operations))

-- what is told of these terms, where x <= y has the auxiliary variable 4 and no other term has one
pub record AreGiven (nodes : List Node) (kept : List (Option ℤ)) (names : List ℕ) (numbers : BTreeMap ℕ ℕ) : Type 0 where
  pub terms : nodes ≡ row_terms
  pub constants : AreConstants row_terms kept
  pub own : names ≡ []
  pub auxiliary : (id v : ℕ) → get nat_cmp numbers id ≡ Some v → (id ≡ 8) × (v ≡ 4)
