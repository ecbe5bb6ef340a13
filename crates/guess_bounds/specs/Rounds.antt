-- Rounds in which bounds are looked for: when one is due, and what it leaves.
use Rattle.std.specs.Prelude.{◌≡◌, ◌+◌, ◌-◌, ◌*◌, ◌/◌, ◌^◌, ◌&&◌, ◌⊎◌, ◌==◌, ℕ, Bool, true, false, not, nat_le, nat_lt, min, max, if◌then◌else◌, Option, Some, None}
use Rattle.std.specs.Option.{option_map_or}

-- whether the bounds that were found last refute each query, as far as is known, and none where there are no bounds; the number of
-- the next round, how many units have to be spent before it, and how often it was dropped
pub record Rounds : Type 0 where
  pub found : Option Bool
  pub round : ℕ
  pub wait : ℕ
  pub drops : ℕ

-- how many rounds there are
abbrev pub most_rounds : ℕ
most_rounds = 4

abbrev pub first_round : Rounds
first_round = record { found = None; round = 0; wait = 0; drops = 0 }

abbrev pub is_safe : Rounds → Bool
is_safe r = option_map_or (λ (safe : Bool). safe) r.found false

-- the level of the book from which on the round comes
abbrev pub level_of : ℕ → ℕ
level_of round = if round == 0 then 4 else if round == 1 then 6 else if round == 2 then 12 else 24

abbrev pub are_due : ℕ → ℕ → Rounds → Bool
are_due level units r = ((nat_le (level_of r.round) level && nat_le r.wait units) && nat_lt r.round most_rounds) && not (is_safe r)

-- numbers stay at the greatest of 32 bits
abbrev pub in_word : ℕ → ℕ
in_word n = min n (2 ^ 32 - 1)

-- how much work a round may take, of which a unit allows for 24
abbrev pub work_of : ℕ → ℕ → ℕ
work_of round units = min (max (in_word (units * 24)) (if round == 0 then 8000 else 10000)) 240000

-- after a round that was dropped: it comes again once as many units more are spent as it had, and as its work is worth, the later the more often
abbrev pub wait_again : ℕ → Rounds → ℕ
wait_again units r = max (in_word (units * in_word (r.drops + 3))) (in_word (work_of r.round units / 24 * 2))

abbrev pub dropped : ℕ → Rounds → Rounds
dropped units r = record r { wait = wait_again units r; drops = in_word (r.drops + 1) }

-- after a round that found bounds which hold together
abbrev pub fixed : Bool → ℕ → Rounds → Rounds
fixed safe units r = record { found = Some safe; round = in_word (r.round + 1); wait = in_word (units * 2); drops = 0 }

-- where false follows no bounds refute each query, so there is no other round
abbrev pub broken : Rounds → Rounds
broken r = record r { found = None; round = most_rounds }

-- what a round leaves, by whether false follows from what was met
abbrev pub IsRenewed : Bool → ℕ → Rounds → Rounds → Type 0
IsRenewed true units old new = new ≡ broken old
IsRenewed false units old new = (new ≡ fixed (is_safe new) units old) ⊎ (new ≡ dropped units old)
