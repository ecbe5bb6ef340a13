-- When two terms are equal as trees, whatever their offsets and the numbers that their arenas give them: their nodes are
-- alike and their parts are equal as trees, in order. A name that `let` binds has the bound term as its part.
use Rattle.std.specs.Prelude.{ℕ, ◌==◌, List, [], ◌∷◌, slice_get, Option, Some, None, Bool, true, false, ◌&&◌}
use Rattle.std.specs.Ordering.{int_eq}
use Rattle.term_tree.specs.declared.sort.Sort.{Sort}
use Rattle.term_tree.specs.declared.node.TermId.{TermId}
use Rattle.term_tree.specs.declared.node.OpKind.{OpKind}
use Rattle.term_tree.specs.declared.node.OpKind.TheVariants.{Not, And, Or, Xor, Implies, Eq, Distinct, Ite, Add, Mul, Sub, Abs, Div, Mod, Le, Lt, Ge, Gt}
use Rattle.term_tree.specs.declared.node.Node.{Node}
use Rattle.term_tree.specs.declared.node.Node.TheVariants.{Num, True, False, Var, LetVar, Pred, Op, Divisible, Let, Forall, Exists}
use Rattle.term_tree.specs.Fold.{told_of}
use Rattle.term_tree.specs.Sorts.{same_sort}

abbrev pub same_sorts : List Sort → List Sort → Bool
same_sorts [] [] = true
same_sorts (s ∷ ss) (t ∷ ts) = same_sort s t && same_sorts ss ts
same_sorts _ _ = false

abbrev pub same_op : OpKind → OpKind → Bool
same_op Not Not = true
same_op And And = true
same_op Or Or = true
same_op Xor Xor = true
same_op Implies Implies = true
same_op Eq Eq = true
same_op Distinct Distinct = true
same_op Ite Ite = true
same_op Add Add = true
same_op Mul Mul = true
same_op Sub Sub = true
same_op Abs Abs = true
same_op Div Div = true
same_op Mod Mod = true
same_op Le Le = true
same_op Lt Lt = true
same_op Ge Ge = true
same_op Gt Gt = true
same_op _ _ = false

-- the parts of a node, in order
abbrev pub parts_of : Node → List TermId
parts_of (LetVar bound) = bound ∷ []
parts_of (Pred pred args) = args
parts_of (Op op args) = args
parts_of (Divisible by arg) = arg ∷ []
parts_of (Let bound body) = body ∷ bound
parts_of (Forall first sorts body) = body ∷ []
parts_of (Exists first sorts body) = body ∷ []
parts_of _ = []

-- nodes of one kind, with the same numbers, sorts and operator
abbrev pub is_alike : Node → Node → Bool
is_alike (Num m) (Num n) = int_eq m n
is_alike True True = true
is_alike False False = true
is_alike (Var binder sort) (Var other type) = (binder == other) && same_sort sort type
is_alike (LetVar bound) (LetVar other) = true
is_alike (Pred pred args) (Pred other ids) = pred == other
is_alike (Op op args) (Op other ids) = same_op op other
is_alike (Divisible by arg) (Divisible other id) = int_eq by other
is_alike (Let bound body) (Let ids id) = true
is_alike (Forall first sorts body) (Forall other types id) = (first == other) && same_sorts sorts types
is_alike (Exists first sorts body) (Exists other types id) = (first == other) && same_sorts sorts types
is_alike _ _ = false

-- as many on both sides, each the same as its partner
abbrev pub same_parts : (ℕ → ℕ → Bool) → List TermId → List TermId → Bool
same_parts same [] [] = true
same_parts same (id ∷ ids) (other ∷ others) = same id.0 other.0 && same_parts same ids others
same_parts same _ _ = false

abbrev pub same_node : (ℕ → ℕ → Bool) → Node → Option Node → Bool
same_node same node None = false
same_node same node (Some other) = is_alike node other && same_parts same (parts_of node) (parts_of other)

abbrev pub node_is_same : List Node → (ℕ → ℕ → Bool) → Node → ℕ → Bool
node_is_same others same node id = same_node same node (slice_get others id)

-- the term of the first number in the one arena and that of the second in the other
abbrev pub is_same_tree : List Node → ℕ → List Node → ℕ → Bool
is_same_tree nodes id others = told_of (λ other. false) (node_is_same others) nodes id
