-- The tokens of a text (SMT-LIB 2.6, section 3.1, "Lexicon", but for hexadecimal and binary literals, which are left out).
-- Each function takes an offset and what stands in the text from there on.
use Rattle.std.specs.Prelude.{ℕ, ◌+◌, ◌-◌, Bool, false, ◌==◌, ◌&&◌, ◌||◌, if◌then◌else◌, List, [], ◌∷◌, Option, None, Some, take, drop}
use Rattle.std.specs.List.{list_all}
use Rattle.base.specs.Bytes.{is_digit, is_symbol_byte, is_white}
use Rattle.base.specs.Numeral.{is_numeral}
use Rattle.sexp_read.specs.declared.tree.LeafKind.{LeafKind}
use Rattle.sexp_read.specs.declared.tree.LeafKind.TheVariants.{Symbol, Quoted, Numeral, Decimal, Text, Keyword}
use Rattle.sexp_read.specs.declared.token.Token.{Token}
use Rattle.sexp_read.specs.declared.token.Token.TheVariants.{End, Open, Close, Leaf, BadByte, Unclosed}

-- where the white space and the comments end. A comment begins with a semicolon, and goes to the end of its line
abbrev mutual
  pub after_gap : ℕ → List ℕ → ℕ
  after_gap at [] = at
  after_gap at (b ∷ rest) = if is_white b then after_gap (at + 1) rest else if b == 59 then after_comment (at + 1) rest else at

  -- where the white space and the comments end, from inside a comment on
  pub after_comment : ℕ → List ℕ → ℕ
  after_comment at [] = at
  after_comment at (b ∷ rest) = if b == 10 || b == 13 then after_gap (at + 1) rest else after_comment (at + 1) rest

-- where the longest run of symbol bytes ends
abbrev pub after_word : ℕ → List ℕ → ℕ
after_word at [] = at
after_word at (b ∷ rest) = if is_symbol_byte b then after_word (at + 1) rest else at

-- where the first bar or backslash stands, or the text ends
abbrev pub after_plain : ℕ → List ℕ → ℕ
after_plain at [] = at
after_plain at (b ∷ rest) = if b == 124 || b == 92 then at else after_plain (at + 1) rest

-- where a text literal ends: after the first quote that isn't doubled
abbrev mutual
  pub after_literal : ℕ → List ℕ → Option ℕ
  after_literal at [] = None
  after_literal at (b ∷ rest) = if b == 34 then after_quote (at + 1) rest else after_literal (at + 1) rest

  -- where a text literal ends, from behind a quote in it: here, unless a second quote doubles the first
  pub after_quote : ℕ → List ℕ → Option ℕ
  after_quote at [] = Some at
  after_quote at (b ∷ rest) = if b == 34 then after_literal (at + 1) rest else Some at

-- a point and one digit or more
abbrev pub is_fraction : List ℕ → Bool
is_fraction [] = false
is_fraction (b ∷ []) = false
is_fraction (b ∷ d ∷ ds) = b == 46 && list_all is_digit (d ∷ ds)

-- how many digits stand in front
abbrev pub digits_in_front : List ℕ → ℕ
digits_in_front [] = 0
digits_in_front (b ∷ rest) = if is_digit b then digits_in_front rest + 1 else 0

-- a numeral, a point and one digit or more
abbrev pub is_decimal : List ℕ → Bool
is_decimal bytes = is_numeral (take (digits_in_front bytes) bytes) && is_fraction (drop (digits_in_front bytes) bytes)

-- what a word that begins with a digit is, if anything
abbrev pub number_kind : List ℕ → Option LeafKind
number_kind bytes = if is_numeral bytes then Some Numeral else if is_decimal bytes then Some Decimal else None

-- what a word is, if anything
abbrev pub word_kind : List ℕ → Option LeafKind
word_kind [] = None
word_kind (b ∷ rest) = if is_digit b then number_kind (b ∷ rest) else Some Symbol

-- The token that begins at an offset of the text, by its first byte.

-- a leaf of that kind; where there is none, a bad byte at the start
abbrev pub kind_token : ℕ → ℕ → Option LeafKind → Token
kind_token start end None = BadByte start
kind_token start end (Some kind) = Leaf kind start end

-- the symbol, numeral or decimal of the longest run of symbol bytes from here on; a bad byte where the run is none of them
abbrev pub word_at : List ℕ → ℕ → Token
word_at text start = let end = after_word start (drop start text) in kind_token start end (word_kind (take (end - start) (drop start text)))

-- a colon, and a word at once
abbrev pub keyword_at : List ℕ → ℕ → Token
keyword_at text start = let end = after_word (start + 1) (drop (start + 1) text) in if end == start + 1 then BadByte start else Leaf Keyword start end

-- a quoted symbol, by what stands behind the bytes between its bars
abbrev pub quoted_of : ℕ → ℕ → List ℕ → Token
quoted_of start end [] = Unclosed start
quoted_of start end (b ∷ rest) = if b == 124 then Leaf Quoted start (end + 1) else BadByte end

-- the quoted symbol that begins with the bar here; unclosed where the text ends in it, a bad byte at a backslash in it
abbrev pub quoted_at : List ℕ → ℕ → Token
quoted_at text start = let end = after_plain (start + 1) (drop (start + 1) text) in quoted_of start end (drop end text)

-- a text literal that ends there; unclosed where it has no end
abbrev pub literal_of : ℕ → Option ℕ → Token
literal_of start None = Unclosed start
literal_of start (Some end) = Leaf Text start end

-- the text literal that begins with the quote here; unclosed where the text ends in it
abbrev pub literal_at : List ℕ → ℕ → Token
literal_at text start = literal_of start (after_literal (start + 1) (drop (start + 1) text))

-- the token that begins here, by the bytes from here on: the end where there are none, a bad byte where the first begins no token
abbrev pub token_by : List ℕ → ℕ → List ℕ → Token
token_by text start [] = End
token_by text start (b ∷ rest) =
    if b == 40 then Open start
    else if b == 41 then Close start
    else if b == 124 then quoted_at text start
    else if b == 34 then literal_at text start
    else if b == 58 then keyword_at text start
    else if is_symbol_byte b then word_at text start
    else BadByte start

-- the token that begins at this very offset, without white space or comments before it
abbrev pub token_at : List ℕ → ℕ → Token
token_at text start = token_by text start (drop start text)

-- the token that the text goes on with from an offset
unfoldable pub next_token : List ℕ → ℕ → Token
next_token text at = token_at text (after_gap at (drop at text))
