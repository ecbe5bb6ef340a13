-- Pairs of terms, the one of the first arena and the other of the second.
use Rattle.std.specs.Prelude.{ℕ, ◌==◌, Bool, nat_lt, ◌&&◌, ◌||◌}

-- the other pair has the smaller first number, or the same and the smaller second one
abbrev pub is_before : ℕ × ℕ → ℕ × ℕ → Bool
is_before pair other = nat_lt other.0 pair.0 || ((other.0 == pair.0) && nat_lt other.1 pair.1)
