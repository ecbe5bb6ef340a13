-- How the items of a table stand in its blocks.
use Rattle.std.specs.Prelude.{ℕ, ◌≡◌, ◌-◌, ◌<◌, min, List, [], ◌∷◌, length}
use Rattle.std.specs.List.{flat_map}

-- the blocks, one after another
abbrev pub joined : {X : Type 0} → List (List X) → List X
joined blocks = flat_map (λ b. b) blocks

-- n items in blocks of 64: no block is empty, and only the last may have fewer
abbrev pub AreFilled : {X : Type 0} → ℕ → List (List X) → Type 0
AreFilled n [] = n ≡ 0
AreFilled n (b ∷ bs) = (0 < n) × (length b ≡ min n 64) × AreFilled (n - 64) bs
