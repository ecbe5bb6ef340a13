-- The node of a term is there.
use Rattle.std.proofs.Common.{◌≡◌, ℕ, ◌<◌, List, length, true, false}
use Rattle.std.specs.Prelude.{slice_get, Some}
use Rattle.std.proofs.lemmas.Option.{slice_get_within}
use Rattle.term_tree.specs.declared.node.TermId.{TermId}
use Rattle.term_tree.specs.declared.node.Node.{Node}
use Rattle.term_tree.specs.declared.node.Node.TheVariants.{Num, True, False, Var, LetVar, Pred, Op}
use Rattle.term_tree.specs.Arena.{Arena}
use Rattle.term_check.specs.Term.{Term, numeral, truth, variable, let_name, predicate, operation, divisible, binding, universal, existential, IsTermAt}

module _ (arena : Arena) (lets : List TermId) where
  -- a term's node is there
  pub node_there : (term : Term) (id : ℕ) → IsTermAt arena lets term id → (node : Node) × (slice_get arena.nodes id ≡ Some node)
  node_there (numeral at value) id h = (Num value, h.0)
  node_there (truth at true) id h = (True, h.0)
  node_there (truth at false) id h = (False, h.0)
  node_there (variable at number sort) id h = (Var number sort, h.0)
  node_there (let_name at number) id h = (LetVar h.0, h.2.0)
  node_there (predicate at number args) id h = (Pred number h.0, h.1.0)
  node_there (operation at op args) id h = (Op op h.0, h.1.0)
  node_there (divisible at by arg) id h = (_, h.1.0)
  node_there (binding at bound body) id h = (_, h.2.0)
  node_there (universal at first sorts body) id h = (_, h.1.0)
  node_there (existential at first sorts body) id h = (_, h.1.0)

  pub term_within : (term : Term) (id : ℕ) → IsTermAt arena lets term id → id < length arena.nodes
  term_within term id h = let n = node_there term id h in slice_get_within arena.nodes id n.0 n.1
