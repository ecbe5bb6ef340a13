-- Terms that end in a predicate: its application, an implication whose last argument is one, and such a term under
-- universal quantifiers.
use Rattle.std.specs.Prelude.{ℕ, List, [], ◌∷◌, slice_get, Option, Some, Bool, false, nat_lt}
use Rattle.term_tree.specs.declared.node.TermId.{TermId}
use Rattle.term_tree.specs.declared.node.OpKind.TheVariants.{Implies}
use Rattle.term_tree.specs.declared.node.Node.{Node}
use Rattle.term_tree.specs.declared.node.Node.TheVariants.{Pred, Op, Forall}
use Rattle.term_tree.specs.Fold.{told_of}

-- the application of a predicate whose number is below n
abbrev pub is_applied : ℕ → Option Node → Bool
is_applied n (Some (Pred pred args)) = nat_lt pred n
is_applied n _ = false

-- the last of the terms is such an application
abbrev pub ends_applied : ℕ → List Node → List TermId → Bool
ends_applied n nodes [] = false
ends_applied n nodes (id ∷ []) = is_applied n (slice_get nodes id.0)
ends_applied n nodes (id ∷ next ∷ ids) = ends_applied n nodes (next ∷ ids)

abbrev pub node_has_head : ℕ → List Node → (ℕ → Bool) → Node → Bool
node_has_head n nodes part (Pred pred args) = nat_lt pred n
node_has_head n nodes part (Op Implies args) = ends_applied n nodes args
node_has_head n nodes part (Forall first sorts body) = part body.0
node_has_head n nodes part _ = false

-- the term of that number ends in a predicate below n
abbrev pub has_head : ℕ → List Node → ℕ → Bool
has_head n nodes = told_of false (node_has_head n nodes) nodes
