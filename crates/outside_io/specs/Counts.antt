-- Counts of faults and of turns, which stop at the last value of 64 bits.
use Rattle.std.specs.Prelude.{ℕ, ◌+◌, ◌-◌, ◌^◌, min, Ok, Err}
use Rattle.std.specs.declared.result.Result.{Result}

-- the next count
abbrev pub counted : ℕ → ℕ
counted n = min (n + 1) (2 ^ 64 - 1)

-- the count of faults after a call: it rises exactly where the call failed
abbrev pub faults_after : {T E : Type 0} → Result T E → ℕ → ℕ
faults_after (Ok x) n = n
faults_after (Err e) n = counted n
