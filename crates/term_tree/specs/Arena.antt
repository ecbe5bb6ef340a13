-- Terms in an arena: each node stands after its parts, so that what it means rests on those before it.
use Rattle.std.specs.Prelude.{ℕ, ◌<◌, List, length, slice_index_or, Bool, true, IsTrue, nat_lt, ◌&&◌}
use Rattle.std.specs.List.{list_all}
use Rattle.term_tree.specs.declared.node.TermId.{TermId}
use Rattle.term_tree.specs.declared.node.Node.{Node}
use Rattle.term_tree.specs.declared.node.Node.TheVariants.{Num, True, False, Var, LetVar, Pred, Op, Divisible, Let, Forall, Exists}

-- the nodes by number, and where each starts in the text
pub record Arena : Type 0 where
  pub nodes : List Node
  pub offsets : List ℕ

-- the term's number is below this one
abbrev pub is_below : ℕ → TermId → Bool
is_below n id = nat_lt id.0 n

-- the parts of a node have numbers below this one
abbrev pub has_parts_below : ℕ → Node → Bool
has_parts_below n (Num k) = true
has_parts_below n True = true
has_parts_below n False = true
has_parts_below n (Var binder sort) = true
has_parts_below n (LetVar bound) = is_below n bound
has_parts_below n (Pred pred args) = list_all (is_below n) args
has_parts_below n (Op op args) = list_all (is_below n) args
has_parts_below n (Divisible by arg) = is_below n arg
has_parts_below n (Let bound body) = list_all (is_below n) bound && is_below n body
has_parts_below n (Forall first sorts body) = is_below n body
has_parts_below n (Exists first sorts body) = is_below n body

-- the parts of each node have numbers below its own, so that no term is a part of itself
abbrev pub IsArena : List Node → Type 0
IsArena nodes = (i : ℕ) (d : Node) → i < length nodes → IsTrue (has_parts_below i (slice_index_or nodes i d))
