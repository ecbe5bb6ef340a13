-- Which obligation is asked first (Hoder and Bjorner, "Generalized property directed reachability", section 3: one of the lowest level).
use Rattle.std.specs.Prelude.{◌≡◌, ◌||◌, ◌&&◌, ◌==◌, ℕ, List, Bool, false, nat_lt}
use Rattle.obligation_tree.specs.Nodes.{node_at, obligation_in}
use Rattle.obligation_tree.specs.declared.node.Node.{Node}

abbrev pub level_at : List Node → ℕ → ℕ
level_at nodes n = (obligation_in (node_at nodes n)).level

-- of a lower level, or of the same and older
abbrev pub is_before : List Node → ℕ → ℕ → Bool
is_before nodes m n = nat_lt (level_at nodes m) (level_at nodes n) || (level_at nodes m == level_at nodes n && nat_lt m n)

-- one that fits, and none that fits is before it
pub record IsFirst (nodes : List Node) (Fits : ℕ → Type 0) (n : ℕ) : Type 0 where
  pub fits : Fits n
  pub first : (m : ℕ) → Fits m → is_before nodes m n ≡ false
