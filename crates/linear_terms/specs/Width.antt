-- The first term of a text whose linear form has no room: an integer term, or else a comparison of which a difference of
-- two sides has none. Numbers have room below 2 ^ 63 in magnitude. A Bool term has no sum of its own, its linear form is 0
-- or a variable, so it is never found.
use Rattle.std.specs.Prelude.{ℕ, List, [], ◌∷◌, ◌++◌, map, slice_get, Option, Some, None, Bool, true, false, not, ◌&&◌, if◌then◌else◌}
use Rattle.std.specs.List.{list_any}
use Rattle.term_tree.specs.declared.node.TermId.{TermId}
use Rattle.term_tree.specs.declared.node.OpKind.{OpKind}
use Rattle.term_tree.specs.declared.node.OpKind.TheVariants.{Eq, Distinct, Le, Lt, Ge, Gt}
use Rattle.term_tree.specs.declared.node.Node.{Node}
use Rattle.term_tree.specs.declared.node.Node.TheVariants.{LetVar, Pred, Op, Divisible, Let, Forall, Exists}
use Rattle.term_tree.specs.Fold.{told_of}
use Rattle.lin_atoms.specs.Linear.{Linear}
use Rattle.linear_terms.specs.Linear.{Naming, linear_of, is_narrow, less}
use Rattle.linear_terms.specs.Formula.{sides}

-- the parts of a node in the order of the text. A name has the term that it is bound to, which was met where it is bound
abbrev pub text_parts : Node → List TermId
text_parts (LetVar bound) = bound ∷ []
text_parts (Pred pred args) = args
text_parts (Op op args) = args
text_parts (Divisible by arg) = arg ∷ []
text_parts (Let bound body) = bound ++ body ∷ []
text_parts (Forall first sorts body) = body ∷ []
text_parts (Exists first sorts body) = body ∷ []
text_parts _ = []

-- the first of the two that is there; nothing where neither is
abbrev pub first_of_two : Option ℕ → Option ℕ → Option ℕ
first_of_two None b = b
first_of_two (Some id) b = Some id

-- what is found in the first of the terms in which something is
abbrev pub first_among : (ℕ → Option ℕ) → List TermId → Option ℕ
first_among part [] = None
first_among part (id ∷ ids) = first_of_two (part id.0) (first_among part ids)

-- what is found in the node's parts, from left to right, else the node itself if the test finds it
abbrev pub node_first : (ℕ → Bool) → (ℕ → ℕ → Option ℕ) → Node → ℕ → Option ℕ
node_first test part node own = first_of_two (first_among (λ id. part id id) (text_parts node)) (if test own then Some own else None)

-- the first term of the text that the test finds, the parts of a term before itself
abbrev pub first_where : (ℕ → Bool) → List Node → ℕ → Option ℕ
first_where test nodes top = told_of (λ own. None) (node_first test) nodes top top

-- the linear form of the term has a number that isn't below 2^63 in magnitude
abbrev pub is_wide_term : Naming → List Node → ℕ → Bool
is_wide_term naming nodes id = not (is_narrow (linear_of naming nodes id))

-- the operator compares its arguments: equality, `distinct`, or one of the four orders of integers
abbrev pub is_relation : OpKind → Bool
is_relation Eq = true
is_relation Distinct = true
is_relation Le = true
is_relation Lt = true
is_relation Ge = true
is_relation Gt = true
is_relation _ = false

-- some difference of sides is wide
abbrev pub is_wide_relation : (ℕ → Linear) → Option Node → Bool
is_wide_relation linear (Some (Op op args)) = is_relation op && list_any (λ p. not (is_narrow (less p.0 p.1))) (sides op (map (λ arg. linear arg.0) args))
is_wide_relation linear _ = false

-- the term is a comparison, and a difference of two sides has a number that isn't below 2^63 in magnitude
abbrev pub is_wide_comparison : Naming → List Node → ℕ → Bool
is_wide_comparison naming nodes id = is_wide_relation (linear_of naming nodes) (slice_get nodes id)

-- all integer terms of the text come before all comparisons
abbrev pub first_wide : Naming → List Node → ℕ → Option ℕ
first_wide naming nodes top = first_of_two (first_where (is_wide_term naming nodes) nodes top) (first_where (is_wide_comparison naming nodes) nodes top)
