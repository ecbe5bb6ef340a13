-- How the code closes obligations: a pass over the live ones, and what is kept to find them.
use Rattle.std.specs.Prelude.{ℕ, ◌≡◌, List, [], ◌∷◌, set, Bool, ◌||◌, ◌==◌, if◌then◌else◌}
use Rattle.std.specs.List.{list_any}
use Rattle.obligation_tree.specs.Nodes.{closed_with, leaf_numbers, live_numbers, node_at}
use Rattle.obligation_tree.specs.Closing.{is_closed_at, root_at}
use Rattle.obligation_tree.specs.Shape.{IsTree}
use Rattle.obligation_tree.specs.declared.obligation.Obligation.{Obligation}
use Rattle.obligation_tree.specs.declared.node.Node.{Node}
use Rattle.obligation_tree.specs.declared.cause.Cause.{Cause}
use Rattle.obligation_tree.specs.declared.cause.Cause.TheVariants.{Lemma, Fact, Raise}
use Rattle.obligation_tree.specs.declared.index.Index.{Index}

-- one live obligation, settled where it stands
abbrev pub settled_at : (ℕ → Obligation → Bool) → ℕ → ℕ → List Node → List Node
settled_at test entry number nodes = if test number (node_at nodes number).obligation || is_closed_at nodes (node_at nodes number).obligation.parent then set nodes number (closed_with entry (node_at nodes number)) else nodes

abbrev pub settled_all : (ℕ → Obligation → Bool) → ℕ → List ℕ → List Node → List Node
settled_all test entry [] nodes = nodes
settled_all test entry (number ∷ numbers) nodes = settled_all test entry numbers (settled_at test entry number nodes)

-- a raise gives the root another level
abbrev pub levelled : Cause → List Node → List Node
levelled (Lemma pred level lemma) nodes = nodes
levelled (Fact pred tuple) nodes = nodes
levelled (Raise level) nodes = root_at level nodes

-- a tree, and the lists of its live obligations and of those without live children
pub record IsKept (nodes : List Node) (index : Index) : Type 0 where
  pub tree : IsTree nodes
  pub live : index.live.items ≡ live_numbers nodes
  pub leaves : index.leaves.items ≡ leaf_numbers nodes

-- whether the number is one of these
abbrev pub is_among : ℕ → List ℕ → Bool
is_among number numbers = list_any (λ n. n == number) numbers
