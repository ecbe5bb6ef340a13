-- Where the input of a check is cut into a script and an answer: at the first line that is exactly `;;answer`. A line begins at the
-- start of the input or behind byte 10. It ends before byte 10, before bytes 13 and 10, or at the end of the input.
use Rattle.std.specs.Prelude.{◌≡◌, ◌<◌, ℕ, zero, suc, ◌+◌, ◌==◌, List, [], ◌∷◌, take, drop, codes, slice_get, Option, Some, None, option_map, Bool, true, false, ◌&&◌, if◌then◌else◌}
use Rattle.std.specs.Str.{bytes_eq}

-- whether there is a byte, and it is a line feed
abbrev pub is_feed : Option ℕ → Bool
is_feed None = false
is_feed (Some byte) = byte == 10

-- whether a line begins at that byte: at the start of the input, or right behind a line feed
abbrev pub begins_line : List ℕ → ℕ → Bool
begins_line input zero = true
begins_line input (suc at) = is_feed (slice_get input at)

-- how many bytes end a line of which the first is a carriage return: 2 before a line feed; else it ends none
abbrev pub after_return : List ℕ → Option ℕ
after_return [] = None
after_return (byte ∷ rest) = if byte == 10 then Some 2 else None

-- how many bytes end a line, where it ends here
abbrev pub line_end : List ℕ → Option ℕ
line_end [] = Some 0
line_end (byte ∷ rest) = if byte == 10 then Some 1 else if byte == 13 then after_return rest else None

-- where the next line begins, or the input ends, behind the marker's line, if that begins here
abbrev pub behind_marker : List ℕ → ℕ → Option ℕ
behind_marker input at =
    if begins_line input at && bytes_eq (take 8 (drop at input)) (codes ";;answer")
    then option_map (λ n. at + 8 + n) (line_end (drop (at + 8) input))
    else None

-- the marker's line begins there, no earlier one is it, and the answer begins behind it
pub record IsCut (input : List ℕ) (script answer : ℕ) : Type 0 where
  pub marker : behind_marker input script ≡ Some answer
  pub first : (at : ℕ) → at < script → behind_marker input at ≡ None

-- no line of the input is exactly `;;answer`, so no answer is cut from it
abbrev pub HasNoMarker : List ℕ → Type 0
HasNoMarker input = (at : ℕ) → behind_marker input at ≡ None
