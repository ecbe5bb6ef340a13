-- The number that digits spell, from what is known of those in front.
use Rattle.std.proofs.Common.{ℕ, ◌≡◌, ◌+◌, ◌-◌, ◌*◌, ◌<◌, ◌≤◌, length, List, [], ◌∷◌, drop, get_or, arith}
use Rattle.std.specs.Prelude.{fold}
use Rattle.std.proofs.lemmas.List.{at_drop_more, at_drop_all}

abbrev pub with_digit : ℕ → ℕ → ℕ
with_digit n d = 10 * n + (d - 48)

abbrev pub number_from : ℕ → List ℕ → ℕ
number_from n ds = fold with_digit n ds

pub number_more : (n : ℕ) (ds : List ℕ) (i : ℕ) → i < length ds → number_from n (drop i ds) ≡ number_from (10 * n + (get_or ds i 0 - 48)) (drop (i + 1) ds)
number_more n ds i h = at_drop_more (number_from n) ds i 0 h

pub number_all : (n : ℕ) (ds : List ℕ) (i : ℕ) → length ds ≤ i → number_from n (drop i ds) ≡ n
number_all n ds i h = at_drop_all (number_from n) ds i h

-- more digits make no smaller number
pub number_grows : (ds : List ℕ) (n : ℕ) → n ≤ number_from n ds
number_grows [] n = omega arith
number_grows (d ∷ ds) n = let h = number_grows ds (with_digit n d) in omega arith

pub ruleset number = (number_more, number_all, number_grows)
