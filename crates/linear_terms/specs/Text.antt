-- The subterms of a term in the order of its text, and those that need an auxiliary variable of their own when the term is
-- written as a linear formula. A name that a `let` binds is a leaf of the text, so a term is met once, where it is bound.
use Rattle.std.specs.Prelude.{ℕ, List, [], ◌∷◌, ◌++◌, map, filter, slice_get, Option, Some, None, Bool, true, false, ◌||◌, if◌then◌else◌}
use Rattle.std.specs.List.{flat_map}
use Rattle.term_tree.specs.declared.sort.Sort.{Sort}
use Rattle.term_tree.specs.declared.sort.Sort.TheVariants.{Int, Bool as Truth}
use Rattle.term_tree.specs.declared.node.TermId.{TermId}
use Rattle.term_tree.specs.declared.node.OpKind.{OpKind}
use Rattle.term_tree.specs.declared.node.OpKind.TheVariants.{Xor, Eq, Distinct, Ite, Abs, Div, Mod}
use Rattle.term_tree.specs.declared.node.Node.{Node}
use Rattle.term_tree.specs.declared.node.Node.TheVariants.{True, False, Var, Pred, Op, Divisible, Let, Forall, Exists}
use Rattle.term_tree.specs.Fold.{told_of}
use Rattle.term_tree.specs.Sorts.{has_sort}
use Rattle.linear_terms.specs.declared.standing.Spot.{Spot}
use Rattle.linear_terms.specs.declared.standing.Standing.{Standing}
use Rattle.linear_terms.specs.declared.standing.Standing.TheVariants.{Plain, Bit, Argument}

-- the term, met in the text as this
abbrev pub spot_as : Standing → TermId → Spot
spot_as standing id = record { id = id.0; standing = standing }

-- the sort of each term
abbrev pub Sorting : Type 0
Sorting = ℕ → Option Sort

-- the term of that number is Bool; not where it has no sort
abbrev pub is_truth : Sorting → ℕ → Bool
is_truth sorts id = has_sort Truth (sorts id)

-- whether the first of the terms is Bool
abbrev pub are_truths : Sorting → List TermId → Bool
are_truths sorts [] = false
are_truths sorts (id ∷ ids) = is_truth sorts id.0

-- as bits where these are Bool terms
abbrev pub compared : Sorting → List TermId → List Spot
compared sorts args = map (spot_as (if are_truths sorts args then Bit else Plain)) args

-- the parts of an `ite`: its condition as a bit, its branches as they are
abbrev pub chosen : List TermId → List Spot
chosen [] = []
chosen (condition ∷ branches) = spot_as Bit condition ∷ map (spot_as Plain) branches

-- the arguments of an operator: as bits those of `xor`, Bool ones of `=` and `distinct`, and the condition of `ite`
abbrev pub operands : Sorting → OpKind → List TermId → List Spot
operands sorts Xor args = map (spot_as Bit) args
operands sorts Eq args = compared sorts args
operands sorts Distinct args = compared sorts args
operands sorts Ite args = chosen args
operands sorts _ args = map (spot_as Plain) args

-- the parts of a node in the order of the text
abbrev pub inner_spots : Sorting → Node → List Spot
inner_spots sorts (Pred pred args) = map (spot_as Argument) args
inner_spots sorts (Op op args) = operands sorts op args
inner_spots sorts (Divisible by arg) = spot_as Plain arg ∷ []
inner_spots sorts (Let bound body) = map (spot_as Bit) bound ++ spot_as Plain body ∷ []
inner_spots sorts (Forall first kinds body) = spot_as Plain body ∷ []
inner_spots sorts (Exists first kinds body) = spot_as Plain body ∷ []
inner_spots sorts _ = []

-- the node where it stands, and then its parts with theirs, in the order of the text
abbrev pub node_spots : Sorting → (ℕ → Spot → List Spot) → Node → Spot → List Spot
node_spots sorts part node spot = spot ∷ flat_map (λ s. part s.id s) (inner_spots sorts node)

-- the term's text, a term before its parts
abbrev pub spots : Sorting → List Node → ℕ → Spot → List Spot
spots sorts = told_of (λ spot. []) (node_spots sorts)

-- integer terms that aren't sums of their parts
abbrev pub is_unit : Option Sort → Node → Bool
is_unit sort (Op Ite args) = has_sort Int sort
is_unit sort (Op Abs args) = true
is_unit sort (Op Div args) = true
is_unit sort (Op Mod args) = true
is_unit sort _ = false

-- terms whose bit is at hand
abbrev pub is_ready : Node → Bool
is_ready (Var binder sort) = true
is_ready True = true
is_ready False = true
is_ready _ = false

-- the term is a variable with a sort; a name that a `let` binds isn't one
abbrev pub is_variable : Node → Bool
is_variable (Var binder sort) = true
is_variable _ = false

-- where the term stands asks for a variable: as a bit if it is Bool and not at hand, as an argument if it is no variable
abbrev pub is_wanted : Standing → Option Sort → Node → Bool
is_wanted Plain sort node = false
is_wanted Bit sort node = if is_ready node then false else has_sort Truth sort
is_wanted Argument sort node = if is_variable node then false else true

-- the term is no sum of its parts, or is asked for where it stands; not where there is no such term
abbrev pub needs_one : Standing → Option Sort → Option Node → Bool
needs_one standing sort None = false
needs_one standing sort (Some node) = is_unit sort node || is_wanted standing sort node

-- whether a term that stands there needs an auxiliary variable
abbrev pub has_auxiliary : Sorting → List Node → Spot → Bool
has_auxiliary sorts nodes spot = needs_one spot.standing (sorts spot.id) (slice_get nodes spot.id)

-- the terms of the text that have an auxiliary variable, in order
abbrev pub places : Sorting → List Node → ℕ → List ℕ
places sorts nodes top = map (λ s. s.id) (filter (has_auxiliary sorts nodes) (spots sorts nodes top (record { id = top; standing = Plain })))
