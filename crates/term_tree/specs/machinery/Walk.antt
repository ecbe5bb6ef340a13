-- A walk through the subterms of a term, each before its parts.
use Rattle.std.specs.Prelude.{◌≡◌, ℕ, ◌==◌, ◌<◌, List, [], ◌∷◌, length, slice_get, Some, Bool, true, ◌||◌}
use Rattle.std.specs.List.{list_any}
use Rattle.term_tree.specs.declared.node.Node.{Node}
use Rattle.term_tree.specs.Subterms.{is_part, IsSubterm}

abbrev pub has_number : ℕ → List ℕ → Bool
has_number q ids = list_any (λ id. id == q) ids

-- the parts of each of these are among those after it, or wait
abbrev pub IsClosed : List Node → (ℕ → Bool) → List ℕ → Type 0
IsClosed nodes waits [] = Unit {0}
IsClosed nodes waits (id ∷ ids) =
    ((node : Node) (part : ℕ) → slice_get nodes id ≡ Some node → is_part part node ≡ true → (has_number part ids || waits part) ≡ true) × IsClosed nodes waits ids

-- these subterms of the term were met, the last of them last, and those of smaller numbers that wait come next
pub record IsWalk (nodes : List Node) (top last : ℕ) (waits : ℕ → Bool) (ids : List ℕ) : Type 0 where
  pub bounded : (q : ℕ) → waits q ≡ true → q < last
  pub within : last < length nodes
  pub waiting : (q : ℕ) → waits q ≡ true → IsSubterm nodes top q
  pub met : (q : ℕ) → has_number q ids ≡ true → IsSubterm nodes top q
  pub there : (q : ℕ) → has_number q ids ≡ true → q < length nodes
  pub closed : IsClosed nodes waits ids
  pub begun : has_number top ids ≡ true
