-- The first obligation among those that were looked at so far.
use Rattle.std.specs.Prelude.{◌||◌, ℕ, List, Bool, not, Option, Some, None, if◌then◌else◌}
use Rattle.obligation_tree.specs.declared.node.Node.{Node}
use Rattle.search_strategy.specs.Jobs.{is_before}

-- the first so far, and one more, which may be out
abbrev pub first_of : List Node → Option ℕ → ℕ → Option ℕ
first_of nodes None n = Some n
first_of nodes (Some best) n = if is_before nodes n best then Some n else Some best

abbrev pub next_first : List Node → (ℕ → Bool) → Option ℕ → ℕ → Option ℕ
next_first nodes out best n = if out n then best else first_of nodes best n

-- out, or not before the first so far
abbrev pub is_behind : List Node → (ℕ → Bool) → Option ℕ → ℕ → Bool
is_behind nodes out None n = out n
is_behind nodes out (Some best) n = out n || not (is_before nodes n best)
