-- The kinds of bytes in a script (SMT-LIB 2.6, section 3.1, "Lexicon").
use Rattle.std.specs.Prelude.{ℕ, Bool, ◌==◌, ◌&&◌, ◌||◌, nat_le, codes}
use Rattle.std.specs.List.{list_any}

-- tab, line feed, carriage return and blank
abbrev pub is_white : ℕ → Bool
is_white byte = byte == 9 || byte == 10 || byte == 13 || byte == 32

-- the decimal digits, from 0 to 9
abbrev pub is_digit : ℕ → Bool
is_digit byte = nat_le 48 byte && nat_le byte 57

-- the English letters, small ones and capitals
abbrev pub is_letter : ℕ → Bool
is_letter byte = nat_le 97 byte && nat_le byte 122 || nat_le 65 byte && nat_le byte 90

-- the bytes of simple symbols: letters, digits and these
abbrev pub is_symbol_byte : ℕ → Bool
is_symbol_byte byte = is_letter byte || is_digit byte || list_any (λ c. byte == c) (codes "~!@$%^&*_-+=<>.?/")
