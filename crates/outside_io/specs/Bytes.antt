-- What a call takes from the front of the bytes that are left, and what it adds behind those that are held.
-- Both lists may be untold, and then nothing is said of them.
use Rattle.std.specs.Prelude.{◌≡◌, ℕ, ◌+◌, ◌≤◌, List, [], ◌++◌, length, take, IfSome, Ok, Err}
use Rattle.std.specs.Option.{option_map}
use Rattle.std.specs.declared.option.Option.{Option}
use Rattle.std.specs.declared.result.Result.{Result}

-- how many bytes a call has moved
abbrev pub moved_count : {E : Type 0} → Result ℕ E → ℕ
moved_count (Ok n) = n
moved_count (Err e) = 0

-- the bytes that a call has moved: the first of the buffer or the piece, as many as it answered
abbrev pub moved : {E : Type 0} → Result ℕ E → List ℕ → List ℕ
moved result buffer = take (moved_count result) buffer

-- these bytes stood before those that are left now
abbrev pub Takes : List ℕ → Option (List ℕ) → Option (List ℕ) → Type 0
Takes bytes old new = old ≡ option_map (λ rest. bytes ++ rest) new

-- some bytes, this many, were taken
abbrev pub TakesCount : ℕ → Option (List ℕ) → Option (List ℕ) → Type 0
TakesCount n old new = (bytes : List ℕ) × (length bytes ≡ n) × Takes bytes old new

-- some bytes, this many at most, were taken
abbrev pub TakesAtMost : ℕ → Option (List ℕ) → Option (List ℕ) → Type 0
TakesAtMost n old new = (bytes : List ℕ) × (length bytes ≤ n) × Takes bytes old new

-- no byte is left
abbrev pub IsAtEnd : Option (List ℕ) → Type 0
IsAtEnd left = IfSome left (λ bytes. bytes ≡ [])

-- these bytes stand now behind those that were held
abbrev pub Appends : List ℕ → Option (List ℕ) → Option (List ℕ) → Type 0
Appends bytes old new = new ≡ option_map (λ held. held ++ bytes) old

-- this much of the room is gone
abbrev pub Uses : ℕ → Option ℕ → Option ℕ → Type 0
Uses n old new = old ≡ option_map (λ room. n + room) new
