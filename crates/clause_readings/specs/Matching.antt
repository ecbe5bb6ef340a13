-- When the terms of two arenas match, however they are numbered: numbers that match have nodes of one kind, with the same
-- operator, predicate, sorts and variables, whose parts match in order.
use Rattle.std.specs.Prelude.{◌≡◌, ℕ, List, [], ◌∷◌, slice_get, Some}
use Rattle.term_tree.specs.declared.node.TermId.{TermId}
use Rattle.term_tree.specs.declared.node.Node.{Node}
use Rattle.term_tree.specs.declared.node.Node.TheVariants.{Num, True, False, Var, LetVar, Pred, Op, Divisible, Let, Forall, Exists}

-- as many on both sides, each of which matches its partner
abbrev pub AreMatched : (ℕ → ℕ → Type 0) → List TermId → List TermId → Type 0
AreMatched matched [] [] = Unit {0}
AreMatched matched [] (other ∷ others) = ⊥
AreMatched matched (id ∷ ids) [] = ⊥
AreMatched matched (id ∷ ids) (other ∷ others) = matched id.0 other.0 × AreMatched matched ids others

-- the one node is the other, over parts that match
abbrev pub IsNodeLike : (ℕ → ℕ → Type 0) → Node → Node → Type 0
IsNodeLike matched (Num n) other = other ≡ Num n
IsNodeLike matched True other = other ≡ True
IsNodeLike matched False other = other ≡ False
IsNodeLike matched (Var binder sort) other = other ≡ Var binder sort
IsNodeLike matched (LetVar bound) other = (id : TermId) × (other ≡ LetVar id) × matched bound.0 id.0
IsNodeLike matched (Pred pred args) other = (ids : List TermId) × (other ≡ Pred pred ids) × AreMatched matched args ids
IsNodeLike matched (Op op args) other = (ids : List TermId) × (other ≡ Op op ids) × AreMatched matched args ids
IsNodeLike matched (Divisible by arg) other = (id : TermId) × (other ≡ Divisible by id) × matched arg.0 id.0
IsNodeLike matched (Let bound body) other = (ids : List TermId) × (id : TermId) × (other ≡ Let ids id) × AreMatched matched bound ids × matched body.0 id.0
IsNodeLike matched (Forall first sorts body) other = (id : TermId) × (other ≡ Forall first sorts id) × matched body.0 id.0
IsNodeLike matched (Exists first sorts body) other = (id : TermId) × (other ≡ Exists first sorts id) × matched body.0 id.0

-- of two arenas: numbers that match have such nodes
abbrev pub AreNodesLike : List Node → List Node → (ℕ → ℕ → Type 0) → Type 0
AreNodesLike nodes others matched =
    (a b : ℕ) → matched a b → (node : Node) × (other : Node) × (slice_get nodes a ≡ Some node) × (slice_get others b ≡ Some other) × IsNodeLike matched node other

-- each number has one partner
abbrev pub IsOneToOne : (ℕ → ℕ → Type 0) → Type 0
IsOneToOne matched = (a b c d : ℕ) → matched a b → matched c d → (a ≡ c → b ≡ d) × (b ≡ d → a ≡ c)

-- the two stand in the list as a pair
abbrev pub ArePaired : List (ℕ × ℕ) → ℕ → ℕ → Type 0
ArePaired pairs a b = (i : ℕ) × (slice_get pairs i ≡ Some (a, b))
