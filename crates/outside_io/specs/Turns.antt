-- How a turn of a source or a sink went, and which turns fail.
use Rattle.std.specs.Prelude.{◌≡◌, ◌≢◌, ℕ, List, [], ◌∷◌, Bool, true, false, ◌==◌, ◌||◌, if◌then◌else◌, Some, None, Ok, Err}
use Rattle.std.specs.List.{list_any}
use Rattle.std.specs.declared.option.Option.{Option}
use Rattle.std.specs.declared.result.Result.{Result}
use Rattle.outside_io.specs.declared.turn.Turn.{Turn}
use Rattle.outside_io.specs.declared.turn.Turn.TheVariants.{Before, Moved, End, Fault}
use Rattle.outside_io.specs.Counts.{counted}

-- the turn of a `take` that gave this many bytes: none, into a buffer that has room, is the end
abbrev pub given_turn : ℕ → List ℕ → Turn
given_turn n [] = Moved
given_turn n (b ∷ bs) = if n == 0 then End else Moved

-- the turn of a `take`
abbrev pub taken_turn : {E : Type 0} → Result ℕ E → List ℕ → Turn
taken_turn (Err e) buffer = Fault
taken_turn (Ok n) buffer = given_turn n buffer

-- the count of ends after a turn: it rises exactly where the turn was one
abbrev pub ends_after : Turn → ℕ → ℕ
ends_after Before n = n
ends_after Moved n = n
ends_after End n = counted n
ends_after Fault n = n

-- the end of the source was met once at most, and then in its last turn
abbrev pub EndsOnce : ℕ → ℕ → Turn → Type 0
EndsOnce old new last = new ≢ old → (new ≡ counted old) × (last ≡ End)

-- the turn of a `put`
abbrev pub put_turn : {T E : Type 0} → Result T E → Turn
put_turn (Err e) = Fault
put_turn (Ok n) = Moved

abbrev pub has_failed : {T E : Type 0} → Result T E → Bool
has_failed (Ok x) = false
has_failed (Err e) = true

-- whether the turn is one of those named
abbrev pub is_named : List ℕ → ℕ → Bool
is_named turns turn = list_any (λ named. named == turn) turns

-- whether no room is left, where that is told
abbrev pub is_full : Option ℕ → Bool
is_full (Some room) = room == 0
is_full None = false

-- whether a `put` fails: its turn is named, or bytes meet no room
abbrev pub refuses : List ℕ → ℕ → Option ℕ → List ℕ → Bool
refuses named turn room [] = is_named named turn
refuses named turn room (b ∷ bs) = is_named named turn || is_full room
