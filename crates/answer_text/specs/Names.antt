-- How names, numbers and values are printed (SMT-LIB 2.6, section 3.1, "Symbols" and "Numerals").
use Rattle.std.specs.Prelude.{ℕ, List, [], ◌∷◌, ◌++◌, Bool, true, false, not, ◌&&◌, if◌then◌else◌, ℤ, pos, nat_abs, int_lt, codes, decimal}
use Rattle.std.specs.List.{list_all, flat_map}
use Rattle.base.specs.Bytes.{is_digit, is_symbol_byte}
use Rattle.term_check.specs.Words.{is_word_among, reserved_words}
use Rattle.term_tree.specs.declared.scalar.Value.{Value}
use Rattle.term_tree.specs.declared.scalar.Value.TheVariants.{Int, Bool as Truth}

-- one byte or more, of which the first is no digit
abbrev pub is_simple : List ℕ → Bool
is_simple [] = false
is_simple (byte ∷ bytes) = not (is_digit byte)

-- a simple symbol: symbol bytes that don't begin with a digit, and no reserved word
unfoldable pub is_bare : List ℕ → Bool
is_bare name = is_simple name && (list_all is_symbol_byte name && not (is_word_among reserved_words name))

-- every other symbol stands between bars
abbrev pub name_text : List ℕ → List ℕ
name_text name = if is_bare name then name else codes "|" ++ name ++ codes "|"

-- a numeral, or the negation of one below 0
unfoldable pub number_text : ℤ → List ℕ
number_text n = if int_lt n (pos 0) then codes "(- " ++ decimal (nat_abs n) ++ codes ")" else decimal (nat_abs n)

-- a truth value as the constant of the theory Core
abbrev pub truth_text : Bool → List ℕ
truth_text true = codes "true"
truth_text false = codes "false"

-- a value as a ground term: true, false, a numeral, or (- numeral) for an integer below 0
abbrev pub value_text : Value → List ℕ
value_text (Int n) = number_text n
value_text (Truth b) = truth_text b

-- each item after a space
abbrev pub after_spaces : {X : Type 0} → (X → List ℕ) → List X → List ℕ
after_spaces text xs = flat_map (λ x. codes " " ++ text x) xs

-- the items with one space between them
abbrev pub spaced : {X : Type 0} → (X → List ℕ) → List X → List ℕ
spaced text [] = []
spaced text (x ∷ xs) = text x ++ after_spaces text xs
