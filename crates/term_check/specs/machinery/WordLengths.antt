-- Words by their lengths.
use Rattle.std.specs.Prelude.{ℕ, List, [], ◌∷◌, length, Bool, ◌&&◌, nat_lt, if◌then◌else◌}

-- longer than the one number of bytes, and shorter than the other
abbrev pub is_between : ℕ → ℕ → List ℕ → Bool
is_between low high word = nat_lt low (length word) && nat_lt (length word) high

abbrev pub between : ℕ → ℕ → List (List ℕ) → List (List ℕ)
between low high [] = []
between low high (w ∷ ws) = if is_between low high w then w ∷ between low high ws else between low high ws
