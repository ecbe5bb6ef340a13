-- What a term is worth where its variables have values: a function that computes, for terms without predicates and
-- quantifiers (SMT-LIB 2.6, section 5.3).
use Rattle.std.specs.Prelude.{ℕ, List, [], ◌∷◌, ◌++◌, map, slice_index_or, false}
use Rattle.term_tree.specs.declared.node.Node.{Node}
use Rattle.term_tree.specs.declared.node.Node.TheVariants.{Num, True, False, Var, LetVar, Pred, Op, Divisible, Let, Forall, Exists}
use Rattle.term_tree.specs.declared.scalar.Value.{Value}
use Rattle.term_tree.specs.declared.scalar.Value.TheVariants.{Int, Bool as Truth}
use Rattle.term_tree.specs.Operators.{result_of, divides, integer}
use Rattle.std.specs.Prelude.{true}

-- the value of each variable by its number
abbrev pub Environment : Type 0
Environment = ℕ → Value

-- the environment that a list of values is; a variable past its end is false
abbrev pub environment_of : List Value → Environment
environment_of values k = slice_index_or values k (Truth false)

-- the value of a term in each environment
abbrev pub Worth : Type 0
Worth = Environment → Value

-- what a number stands for, where these are the terms so far
abbrev pub worth_in : List Worth → ℕ → Worth
worth_in earlier id = slice_index_or earlier id (λ env. Truth false)

-- one node, over what its parts are worth. A predicate or quantifier has no value here, and counts as false
abbrev pub node_worth : (ℕ → Worth) → Node → Worth
node_worth part (Num n) env = Int n
node_worth part True env = Truth true
node_worth part False env = Truth false
node_worth part (Var binder sort) env = env binder
node_worth part (LetVar bound) env = part bound.0 env
node_worth part (Pred pred args) env = Truth false
node_worth part (Op op args) env = result_of op (map (λ arg. part arg.0 env) args)
node_worth part (Divisible by arg) env = Truth (divides by (integer (part arg.0 env)))
node_worth part (Let bound body) env = part body.0 env
node_worth part (Forall first sorts body) env = Truth false
node_worth part (Exists first sorts body) env = Truth false

-- what the nodes are worth, in order, each over those before it
abbrev pub worths_from : List Worth → List Node → List Worth
worths_from earlier [] = earlier
worths_from earlier (node ∷ nodes) = worths_from (earlier ++ node_worth (worth_in earlier) node ∷ []) nodes

-- the value of the term of that number
abbrev pub value_of : List Node → ℕ → Worth
value_of nodes = worth_in (worths_from [] nodes)
