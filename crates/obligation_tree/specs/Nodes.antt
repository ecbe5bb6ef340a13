-- The obligations of property directed reachability with their parents (Hoder and Bjorner, "Generalized property directed
-- reachability", 2012, section 3; Komuravelli, Gurfinkel and Chaki, "SMT-based model checking for recursive programs",
-- 2014, section 4), as a list in order of number. A node is an obligation, the journal entry that closed it, if there is
-- one, and whether it is stalled.
use Rattle.std.specs.Prelude.{ℕ, List, [], length, get_or, set, filter, Bool, true, false, not, ◌&&◌, ◌==◌, nat_lt, Option, Some, None, is_none, ◌≡◌, ◌<◌}
use Rattle.std.specs.List.{range_with_len, list_any}
use Rattle.obligation_tree.specs.declared.obligation.Obligation.{Obligation}
use Rattle.obligation_tree.specs.declared.node.Node.{Node}

-- all obligations, in order of number, and what each worker holds, in order of the workers
pub record TreeState : Type 0 where
  pub nodes : List Node
  pub claims : List (Option ℕ)

-- the obligation for false: every derivation of it would do
abbrev pub root : ℕ → Obligation
root level = record { pred = None; level = level; cube = []; point = []; parent = 0; clause = 0; atom = 0 }

-- an obligation as it comes into the tree
abbrev pub fresh : Obligation → Node
fresh obligation = record { obligation = obligation; closed_by = None; stalled = false }

-- what a node has, for the specs of other crates
abbrev pub obligation_in : Node → Obligation
obligation_in node = node.obligation

-- the journal entry that closed the obligation; none while it is live
abbrev pub closed_in : Node → Option ℕ
closed_in node = node.closed_by

-- whether an entry has marked the obligation as stalled
abbrev pub is_stalled_in : Node → Bool
is_stalled_in node = node.stalled

abbrev pub closed_with : ℕ → Node → Node
closed_with entry node = record node { closed_by = Some entry }

-- what stands at a number that was never given out: nothing that is live
abbrev pub absent : Node
absent = closed_with 0 (fresh (root 0))

abbrev pub node_at : List Node → ℕ → Node
node_at nodes number = get_or nodes number absent

abbrev pub is_live : Node → Bool
is_live node = is_none node.closed_by

abbrev pub is_live_at : List Node → ℕ → Bool
is_live_at nodes number = is_live (node_at nodes number)

abbrev pub parent_at : List Node → ℕ → ℕ
parent_at nodes number = (node_at nodes number).obligation.parent

-- the numbers of the live obligations, ascending
abbrev pub live_numbers : List Node → List ℕ
live_numbers nodes = filter (is_live_at nodes) (range_with_len 0 (length nodes))

-- whether `child` hangs right under `number`; the root hangs under nothing
abbrev pub is_child_of : List Node → ℕ → ℕ → Bool
is_child_of nodes number child = nat_lt 0 child && parent_at nodes child == number

abbrev pub has_live_child : List Node → ℕ → Bool
has_live_child nodes number = list_any (is_child_of nodes number) (live_numbers nodes)

-- the numbers of the live obligations without live children, ascending
abbrev pub leaf_numbers : List Node → List ℕ
leaf_numbers nodes = filter (λ number. not (has_live_child nodes number)) (live_numbers nodes)

-- all obligations, that one stalled
abbrev pub marked_at : ℕ → List Node → List Node
marked_at number nodes = set nodes number (record (node_at nodes number) { stalled = true })

-- a live obligation without live children
pub record IsLiveLeaf (nodes : List Node) (n : ℕ) : Type 0 where
  pub there : n < length nodes
  pub live : is_live_at nodes n ≡ true
  pub leaf : has_live_child nodes n ≡ false
