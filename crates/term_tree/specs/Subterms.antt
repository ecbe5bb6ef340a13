-- The subterms of a term, with the terms that its bound names stand for.
use Rattle.std.specs.Prelude.{◌≡◌, ℕ, ◌==◌, List, slice_get, Some, Bool, true, false, IsTrue, ◌||◌}
use Rattle.std.specs.List.{list_any}
use Rattle.term_tree.specs.declared.node.TermId.{TermId}
use Rattle.term_tree.specs.declared.node.Node.{Node}
use Rattle.term_tree.specs.declared.node.Node.TheVariants.{Num, True, False, Var, LetVar, Pred, Op, Divisible, Let, Forall, Exists}

-- one of the terms has that number
abbrev pub is_among : ℕ → List TermId → Bool
is_among part ids = list_any (λ id. id.0 == part) ids

-- the node is made of the term of that number
abbrev pub is_part : ℕ → Node → Bool
is_part part (Num n) = false
is_part part True = false
is_part part False = false
is_part part (Var binder sort) = false
is_part part (LetVar bound) = bound.0 == part
is_part part (Pred pred args) = is_among part args
is_part part (Op op args) = is_among part args
is_part part (Divisible by arg) = arg.0 == part
is_part part (Let bound body) = is_among part bound || body.0 == part
is_part part (Forall first sorts body) = body.0 == part
is_part part (Exists first sorts body) = body.0 == part

-- a term is a subterm of itself, and so is each part of a subterm
pub data IsSubterm : List Node → ℕ → ℕ → Type 0 where
  itself : {nodes : List Node} {top : ℕ} → IsSubterm nodes top top
  inside : {nodes : List Node} {top id : ℕ} (part : ℕ) (node : Node) → IsSubterm nodes top id → slice_get nodes id ≡ Some node → IsTrue (is_part part node) → IsSubterm nodes top part

-- the node of each subterm passes the test
abbrev pub EverySubterm : (Node → Bool) → List Node → ℕ → Type 0
EverySubterm test nodes top = (id : ℕ) (node : Node) → IsSubterm nodes top id → slice_get nodes id ≡ Some node → IsTrue (test node)

-- neither a predicate nor a quantifier
abbrev pub is_plain : Node → Bool
is_plain (Pred pred args) = false
is_plain (Forall first sorts body) = false
is_plain (Exists first sorts body) = false
is_plain _ = true

-- the term has no predicates and no quantifiers
abbrev pub IsPlain : List Node → ℕ → Type 0
IsPlain nodes top = EverySubterm is_plain nodes top
