-- What a leaf says.
use Rattle.std.specs.Prelude.{ℕ, ◌+◌, ◌-◌, nat_lt, if◌then◌else◌, List, take, drop, Option, None, Some}
use Rattle.base.specs.Numeral.{number_of}
use Rattle.base.specs.Widths.{short_limit}
use Rattle.sexp_read.specs.declared.tree.LeafKind.{LeafKind}
use Rattle.sexp_read.specs.declared.tree.LeafKind.TheVariants.{Symbol, Quoted, Numeral, Text}
use Rattle.sexp_read.specs.declared.tree.Tree.{Tree}
use Rattle.sexp_read.specs.declared.tree.Tree.TheVariants.{Leaf}

-- the bytes from one offset to another
abbrev pub between : List ℕ → ℕ → ℕ → List ℕ
between text start end = take (end - start) (drop start text)

-- the bytes of a leaf, without the bars or quotes
abbrev pub inner : List ℕ → LeafKind → ℕ → ℕ → List ℕ
inner text Quoted start end = between text (start + 1) (end - 1)
inner text Text start end = between text (start + 1) (end - 1)
inner text _ start end = between text start end

abbrev pub leaf_bytes : List ℕ → Tree → Option (List ℕ)
leaf_bytes text (Leaf kind start end) = Some (inner text kind start end)
leaf_bytes text _ = None

-- the bytes of a symbol, between bars or not
abbrev pub symbol_of : List ℕ → LeafKind → ℕ → ℕ → Option (List ℕ)
symbol_of text Symbol start end = Some (inner text Symbol start end)
symbol_of text Quoted start end = Some (inner text Quoted start end)
symbol_of text _ start end = None

-- the bytes of a tree that is a symbol, without its bars if it has some; none of other leaves and of lists
abbrev pub symbol_bytes : List ℕ → Tree → Option (List ℕ)
symbol_bytes text (Leaf kind start end) = symbol_of text kind start end
symbol_bytes text _ = None

-- the bytes of a symbol without bars, which alone can be a reserved word
abbrev pub word_of : List ℕ → LeafKind → ℕ → ℕ → Option (List ℕ)
word_of text Symbol start end = Some (inner text Symbol start end)
word_of text _ start end = None

-- the bytes of a tree that is a symbol without bars; none of other leaves and of lists
abbrev pub word_bytes : List ℕ → Tree → Option (List ℕ)
word_bytes text (Leaf kind start end) = word_of text kind start end
word_bytes text _ = None

-- a number that is short, as widths have it
abbrev pub short_number : ℕ → Option ℕ
short_number n = if nat_lt n short_limit then Some n else None

-- the value of a numeral below 2 ^ 63; none of a greater one, and of other leaves
abbrev pub numeral_of : List ℕ → LeafKind → ℕ → ℕ → Option ℕ
numeral_of text Numeral start end = short_number (number_of (inner text Numeral start end))
numeral_of text _ start end = None

-- the value of a tree that is a numeral below 2 ^ 63; none of a greater one, of other leaves and of lists
abbrev pub numeral_value : List ℕ → Tree → Option ℕ
numeral_value text (Leaf kind start end) = numeral_of text kind start end
numeral_value text _ = None
