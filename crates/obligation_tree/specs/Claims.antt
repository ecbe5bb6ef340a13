-- Claims: what each worker holds, in order of the workers, who are numbered from 1.
use Rattle.std.specs.Prelude.{ℕ, ◌-◌, List, set, Bool, false, ◌==◌, Option, Some, None}
use Rattle.std.specs.List.{list_any}
pub use Rattle.base.specs.Limits.{most_workers}

abbrev pub is_claim_of : ℕ → Option ℕ → Bool
is_claim_of number None = false
is_claim_of number (Some held) = held == number

-- the worker holds this obligation and no other
abbrev pub claimed : ℕ → ℕ → List (Option ℕ) → List (Option ℕ)
claimed number worker claims = set claims (worker - 1) (Some number)

-- the worker holds none
abbrev pub released : ℕ → List (Option ℕ) → List (Option ℕ)
released worker claims = set claims (worker - 1) None

-- whether the obligation is held, even if this worker holds none
abbrev pub is_held_by_another : ℕ → ℕ → List (Option ℕ) → Bool
is_held_by_another number worker claims = list_any (is_claim_of number) (released worker claims)
