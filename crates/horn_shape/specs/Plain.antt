-- Terms without predicates and quantifiers, as a test that computes. A name that a `let` binds counts as its term.
use Rattle.std.specs.Prelude.{ℕ, List, Bool, true, false, ◌&&◌}
use Rattle.std.specs.List.{list_all}
use Rattle.term_tree.specs.declared.node.Node.{Node}
use Rattle.term_tree.specs.declared.node.Node.TheVariants.{Num, True, False, Var, LetVar, Pred, Op, Divisible, Let, Forall, Exists}
use Rattle.term_tree.specs.Fold.{told_of}

-- one node, over what is known of its parts: no predicate, no quantifier, and none in any part
abbrev pub node_is_plain : (ℕ → Bool) → Node → Bool
node_is_plain part (Num n) = true
node_is_plain part True = true
node_is_plain part False = true
node_is_plain part (Var binder sort) = true
node_is_plain part (LetVar bound) = part bound.0
node_is_plain part (Pred pred args) = false
node_is_plain part (Op op args) = list_all (λ arg. part arg.0) args
node_is_plain part (Divisible by arg) = part arg.0
node_is_plain part (Let bound body) = list_all (λ b. part b.0) bound && part body.0
node_is_plain part (Forall first sorts body) = false
node_is_plain part (Exists first sorts body) = false

-- the term has neither predicates nor quantifiers
abbrev pub is_plain_term : List Node → ℕ → Bool
is_plain_term = told_of false node_is_plain
