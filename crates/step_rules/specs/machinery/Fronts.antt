-- What a cube's equations tell of its tuples, and the least of some numbers.
use Rattle.std.specs.Prelude.{ℕ, ℤ, pos, negsuc, neg_ℤ, ◌≡◌, ◌⊎◌, List, [], ◌∷◌, Bool, nat_lt, Option, Some, None, if◌then◌else◌}
use Rattle.lin_atoms.specs.Linear.{Linear}

-- the form is the place less the value, or the value less the place
abbrev pub Pins : ℕ → ℤ → Linear → Type 0
Pins place value lin =
    (lin ≡ record { terms = (place, pos 1) ∷ []; constant = neg_ℤ value }) ⊎ (lin ≡ record { terms = (place, negsuc 0) ∷ []; constant = value })

-- of one number and another, where the first may be missing
abbrev pub lesser : Option ℕ → ℕ → Option ℕ
lesser None n = Some n
lesser (Some m) n = Some (if nat_lt n m then n else m)

-- of those that pass
abbrev pub with_least : (ℕ → Bool) → Option ℕ → ℕ → Option ℕ
with_least p best n = if p n then lesser best n else best
