-- What the printed words, numbers, values and names say as trees.
use Rattle.std.proofs.Common.{ℕ, suc, pos, negsuc, ◌≡◌, ◌+◌, ◌^◌, ◌<◌, List, [], ◌∷◌, ◌++◌, length, Bool, true, false, cond, not, ◌||◌, ◌&&◌, Some, None, Result, Ok, refl, sym, ap, subst, ◌∙◌, arith, append_assoc, append-nil, codes, decimal, nat_eq, int_lt, bytes_eq}
use Rattle.std.specs.List.{list_all, AllByRecursion}
use Rattle.base.specs.Bytes.{is_digit, is_letter, is_symbol_byte}
use Rattle.base.specs.Numeral.{number_of}
use Rattle.sexp_read.specs.declared.tree.LeafKind.{LeafKind}
use Rattle.sexp_read.specs.declared.tree.LeafKind.TheVariants.{Symbol, Quoted, Numeral, Decimal}
use Rattle.sexp_read.specs.declared.tree.Tree.{Tree, items_hidden-the_row-Tree-0}
use Rattle.sexp_read.specs.declared.tree.Tree.TheVariants.{Leaf as LeafTree}
use Rattle.sexp_read.specs.Leaves.{short_number, numeral_value, symbol_bytes}
use Rattle.sexp_read.specs.Lexicon.{word_kind, number_kind, is_decimal}
use Rattle.sexp_read.specs.Trees.{most_open}
use Rattle.term_tree.specs.declared.scalar.Value.{Value}
use Rattle.term_tree.specs.declared.scalar.Value.TheVariants.{Int, Bool as Truth}
use Rattle.term_tree.proofs.Public.{both_true}
use Rattle.term_check.specs.Words.{is_word_among, reserved_words}
use Rattle.term_check.specs.Spelling.{is_symbol, is_spelled, name_of}
use Rattle.term_check.proofs.Public.{below_is}
use Rattle.answer_text.specs.Names.{is_simple, is_bare, name_text, number_text, value_text, after_spaces, spaced}
use Rattle.answer_text.specs.Printable.{IsShortValue}
use Rattle.answer_text.specs.ReadBack.{is_quotable}
use Rattle.answer_text.specs.Reading.{◌>>=◌, in_list, read_each, said_by, read_numeral, integer_value, negative_value, negation, read_value, value}
use Rattle.answer_text.proofs.PieceLemmas.{ends_word, not_true}
use Rattle.answer_text.proofs.DecimalLemmas.{IsSpelled, decimal_is}
use Rattle.answer_text.proofs.ShowLemmas.{Shows, ShowsRow, FirstAnd, Within, IsLeaf, shows_same, row_same, row_none, row_more, row_behind, shows_list, shows_word, shows_quoted}

-- one tree and no more
abbrev pub Only : (List ℕ → Tree → Type 0) → List ℕ → List Tree → Type 0
Only P = FirstAnd P (λ text trees. trees ≡ [])

pub row_last : (P : List ℕ → Tree → Type 0) (depth : ℕ) (piece : List ℕ) → Shows P depth piece → ShowsRow (Only P) depth piece
row_last P depth piece s =
    subst (λ (l : List ℕ). ShowsRow (Only P) depth l) (append-nil piece) (row_more P (λ text trees. trees ≡ []) depth piece [] s refl (row_none (λ text trees. trees ≡ []) depth (λ text. refl)))

-- a tree, a blank and more trees
pub row_spaced : (P : List ℕ → Tree → Type 0) (Q : List ℕ → List Tree → Type 0) (depth : ℕ) (piece others : List ℕ) → Shows P depth piece → ShowsRow Q depth others
    → ShowsRow (FirstAnd P Q) depth (piece ++ (codes " " ++ others))
row_spaced P Q depth piece others s r = row_more P Q depth piece (codes " " ++ others) s refl (row_behind Q depth (codes " ") others refl r)

-- Words.

pub shows_symbol : (depth : ℕ) (b : ℕ) (bs : List ℕ) → is_digit b ≡ false → list_all is_symbol_byte (b ∷ bs) ≡ true → Shows (IsLeaf Symbol (b ∷ bs)) depth (b ∷ bs)
shows_symbol depth b bs letter all = shows_word depth b bs Symbol (λ text start end. refl) all (ap (λ t. cond t (number_kind (b ∷ bs)) (Some Symbol)) letter)

pub symbol_is : (bytes name text : List ℕ) (tree : Tree) → IsLeaf Symbol bytes text tree → is_symbol text tree name ≡ bytes_eq bytes name
symbol_is bytes name text tree leaf = ap (λ (t : Tree). is_symbol text t name) leaf.2 ∙ ap (λ (b : List ℕ). bytes_eq b name) leaf.3

-- Numbers.

middle : (a b c : Bool) → b ≡ true → (a || b || c) ≡ true
middle true b c h = refl
middle false true c h = refl
middle false false c h = absurd (cc)

pub digits_are_symbols : (ds : List ℕ) → list_all is_digit ds ≡ true → list_all is_symbol_byte ds ≡ true
digits_are_symbols [] h = refl
digits_are_symbols (d ∷ ds) h =
    let both = both_true (is_digit d) (list_all is_digit ds) h in
    let this : is_symbol_byte d ≡ true = middle (is_letter d) (is_digit d) _ both.0 in
    ap (λ t. t && list_all is_symbol_byte ds) this ∙ digits_are_symbols ds both.1

pub shows_digits : (depth n : ℕ) (ds : List ℕ) → IsSpelled n ds → Shows (IsLeaf Numeral ds) depth ds
shows_digits depth n [] s = let e : false ≡ true = s.numeral in absurd (cc)
shows_digits depth n (d ∷ ds) s =
    let first = (both_true (is_digit d) (list_all is_digit ds) s.digits).0 in
    let sort : word_kind (d ∷ ds) ≡ Some Numeral =
    ap (λ t. cond t (number_kind (d ∷ ds)) (Some Symbol)) first ∙ ap (λ t. cond t (Some Numeral) (cond (is_decimal (d ∷ ds)) (Some Decimal) None)) s.numeral in
    shows_word depth d ds Numeral (λ text start end. refl) (digits_are_symbols (d ∷ ds) s.digits) sort

pub short_number_is : (n : ℕ) → n < 2 ^ 63 → short_number n ≡ Some n
short_number_is n h = ap (λ t. cond t (Some n) None) (below_is n (2 ^ 63) h)

pub numeral_is : (n : ℕ) (text : List ℕ) (tree : Tree) → n < 2 ^ 63 → IsLeaf Numeral (decimal n) text tree → numeral_value text tree ≡ Some n
numeral_is n text tree h leaf =
    ap (λ (t : Tree). numeral_value text t) leaf.2 ∙ ap (λ (b : List ℕ). short_number (number_of b)) leaf.3 ∙ ap short_number (decimal_is n (omega arith)).value ∙ short_number_is n h

pub shows_numeral : (depth n : ℕ) → n < 2 ^ 63 → Shows (IsLeaf Numeral (decimal n)) depth (decimal n)
shows_numeral depth n h = shows_digits depth n (decimal n) (decimal_is n (omega arith))

pub shows_number : (depth n : ℕ) → n < 2 ^ 63 → Shows (λ text tree. read_numeral text tree ≡ Ok n) depth (decimal n)
shows_number depth n h =
    shows_same (IsLeaf Numeral (decimal n)) (λ text tree. read_numeral text tree ≡ Ok n) depth (decimal n) (λ text tree leaf. ap (said_by tree) (numeral_is n text tree h leaf)) (shows_numeral depth n h)

-- (- n)

abbrev pub Negation : ℕ → List ℕ → List Tree → Type 0
Negation n = FirstAnd (IsLeaf Symbol (codes "-")) (Only (IsLeaf Numeral (decimal n)))

pub shows_negation : (depth n : ℕ) → depth < most_open → n < 2 ^ 63 → Shows (Within (Negation n)) depth (codes "(- " ++ decimal n ++ codes ")")
shows_negation depth n below h =
    shows_list (Negation n) depth (codes "-" ++ (codes " " ++ decimal n)) below
    (row_spaced (IsLeaf Symbol (codes "-")) (Only (IsLeaf Numeral (decimal n))) (depth + 1) (codes "-") (decimal n) (shows_symbol (depth + 1) 45 [] refl refl)
    (row_last (IsLeaf Numeral (decimal n)) (depth + 1) (decimal n) (shows_numeral (depth + 1) n h)))

-- Values.

pub plain_text : (n : ℕ) → number_text (pos n) ≡ decimal n
unfolding number_text
plain_text n = ap (λ t. cond t (codes "(- " ++ decimal n ++ codes ")") (decimal n)) (not_below n)
  where
    not_below : (k : ℕ) → int_lt (pos k) (pos 0) ≡ false
    not_below k = grind arith

pub negative_text : (n : ℕ) → number_text (negsuc n) ≡ codes "(- " ++ decimal (suc n) ++ codes ")"
unfolding number_text
negative_text n = refl

abbrev pub IsValue : Value → List ℕ → Tree → Type 0
IsValue v text tree = value text tree ≡ Ok v

truth_is : (b : Bool) (word text : List ℕ) (tree : Tree) → ((name : List ℕ) → is_symbol text tree name ≡ bytes_eq word name) → (leaf : IsLeaf Symbol word text tree)
    → cond (bytes_eq word (codes "true")) (Some (Truth true)) (cond (bytes_eq word (codes "false")) (Some (Truth false)) None) ≡ Some (Truth b) → read_value text tree ≡ Some (Truth b)
truth_is b word text tree says leaf h =
    ap (read_value text) leaf.2
    ∙ ap (λ t. cond t (Some (Truth true)) (cond (is_symbol text (LeafTree Symbol leaf.0 leaf.1) (codes "false")) (Some (Truth false)) None)) (ap (λ (t : Tree). is_symbol text t (codes "true")) (sym leaf.2) ∙ says (codes "true"))
    ∙ ap (λ t. cond (bytes_eq word (codes "true")) (Some (Truth true)) (cond t (Some (Truth false)) None)) (ap (λ (t : Tree). is_symbol text t (codes "false")) (sym leaf.2) ∙ says (codes "false"))
    ∙ h

not_nought : (n : ℕ) → nat_eq (suc n) 0 ≡ false
not_nought n = grind arith

negated_is : (n : ℕ) → negative_value (Some (suc n)) ≡ Some (Int (negsuc n))
negated_is n = ap (λ t. cond t None (Some (Int (negsuc n)))) (not_nought n)

minus_is : (n : ℕ) (text : List ℕ) (tree : Tree) → suc n < 2 ^ 63 → Within (Negation (suc n)) text tree → read_value text tree ≡ Some (Int (negsuc n))
minus_is n text tree h (items, start, end, is, (minus, others, all, sign, (digits, rest, only, numeral, last))) =
    let row : items ≡ minus ∷ digits ∷ [] = all ∙ ap (λ (l : List Tree). minus ∷ l) (only ∙ ap (λ (l : List Tree). digits ∷ l) last) in
    ap (read_value text) is ∙ ap (negation text) (items_hidden-the_row-Tree-0 items) ∙ ap (negation text) row
    ∙ ap (λ t. cond t (negative_value (numeral_value text digits)) None) (symbol_is (codes "-") (codes "-") text minus sign)
    ∙ ap negative_value (numeral_is (suc n) text digits h numeral) ∙ negated_is n

pub shows_value : (depth : ℕ) (v : Value) → depth < most_open → IsShortValue v → Shows (IsValue v) depth (value_text v)
shows_value depth (Int (pos n)) below h =
    subst (λ (l : List ℕ). Shows (IsValue (Int (pos n))) depth l) (sym (plain_text n))
    (shows_same (IsLeaf Numeral (decimal n)) (IsValue (Int (pos n))) depth (decimal n)
    (λ text tree leaf. ap (said_by tree) (ap (read_value text) leaf.2 ∙ ap (λ (t : Tree). integer_value (numeral_value text t)) (sym leaf.2) ∙ ap integer_value (numeral_is n text tree h leaf))) (shows_numeral depth n h))
shows_value depth (Int (negsuc n)) below h =
    let fits : suc n < 2 ^ 63 = omega (arith, h) in
    subst (λ (l : List ℕ). Shows (IsValue (Int (negsuc n))) depth l) (sym (negative_text n))
    (shows_same (Within (Negation (suc n))) (IsValue (Int (negsuc n))) depth (codes "(- " ++ decimal (suc n) ++ codes ")") (λ text tree is. ap (said_by tree) (minus_is n text tree fits is))
    (shows_negation depth (suc n) below fits))
shows_value depth (Truth true) below h =
    shows_same (IsLeaf Symbol (codes "true")) (IsValue (Truth true)) depth (codes "true")
    (λ text tree leaf. ap (said_by tree) (truth_is true (codes "true") text tree (λ name. symbol_is (codes "true") name text tree leaf) leaf refl)) (shows_symbol depth 116 (codes "rue") refl refl)
shows_value depth (Truth false) below h =
    shows_same (IsLeaf Symbol (codes "false")) (IsValue (Truth false)) depth (codes "false")
    (λ text tree leaf. ap (said_by tree) (truth_is false (codes "false") text tree (λ name. symbol_is (codes "false") name text tree leaf) leaf refl)) (shows_symbol depth 102 (codes "alse") refl refl)

-- Names.

-- a symbol that is a name, of these bytes
abbrev pub IsNamed : List ℕ → List ℕ → Tree → Type 0
IsNamed name text tree = (kind : LeafKind) × (start : ℕ) × (end : ℕ) × (tree ≡ LeafTree kind start end) × (name_of text tree ≡ Some name) × (symbol_bytes text tree ≡ Some name)

bare_is : (name : List ℕ) → is_bare name ≡ true → (is_simple name ≡ true) × (list_all is_symbol_byte name ≡ true) × (is_word_among reserved_words name ≡ false)
unfolding is_bare
bare_is name h =
    let first = both_true (is_simple name) (list_all is_symbol_byte name && not (is_word_among reserved_words name)) h in
    let second = both_true (list_all is_symbol_byte name) (not (is_word_among reserved_words name)) first.1 in
    (first.0, second.0, not_true (is_word_among reserved_words name) second.1)

pub shows_bare : (depth : ℕ) (name : List ℕ) → is_simple name ≡ true → list_all is_symbol_byte name ≡ true → is_word_among reserved_words name ≡ false → Shows (IsNamed name) depth name
shows_bare depth [] simple all free = absurd (cc)
shows_bare depth (b ∷ bs) simple all free =
    shows_same (IsLeaf Symbol (b ∷ bs)) (IsNamed (b ∷ bs)) depth (b ∷ bs)
    (λ text tree leaf. (
      Symbol,
      leaf.0,
      leaf.1,
      leaf.2,
      ap (name_of text) leaf.2 ∙ ap (λ (n : List ℕ). cond (is_word_among reserved_words n) None (Some n)) leaf.3 ∙ ap (λ t. cond t None (Some (b ∷ bs))) free,
      ap (symbol_bytes text) leaf.2 ∙ ap Some leaf.3,
    ))
    (shows_symbol depth b bs (not_true (is_digit b) simple) all)

pub shows_name : (depth : ℕ) (name : List ℕ) → is_quotable name ≡ true → Shows (IsNamed name) depth (name_text name)
shows_name depth name plain = by (is_bare name) refl
  where
    by : (b : Bool) → is_bare name ≡ b → Shows (IsNamed name) depth (cond b name (codes "|" ++ name ++ codes "|"))
    by true h = let bare = bare_is name h in shows_bare depth name bare.0 bare.1 bare.2
    by false h =
        shows_same (IsLeaf Quoted name) (IsNamed name) depth (codes "|" ++ name ++ codes "|")
        (λ text tree leaf. (Quoted, leaf.0, leaf.1, leaf.2, ap (name_of text) leaf.2 ∙ ap Some leaf.3, ap (symbol_bytes text) leaf.2 ∙ ap Some leaf.3))
        (shows_quoted depth name plain)

pub named_is : (name word text : List ℕ) (tree : Tree) → IsNamed name text tree → is_symbol text tree word ≡ bytes_eq name word
named_is name word text tree named = ap (λ o. is_spelled o word) named.5

-- Lists of what is read one after another.

-- the trees are read as these
abbrev pub AreRead : {X : Type 0} → (List ℕ → Tree → Result X ℕ) → List X → List ℕ → List Tree → Type 0
AreRead {X} read xs text trees = ((before : List X) → read_each (read text) before trees ≡ Ok (before ++ xs)) × (length trees ≡ length xs)

module _ {X : Type 0} (read : List ℕ → Tree → Result X ℕ) where
  pub read_none : (text : List ℕ) → AreRead read [] text []
  read_none text = (λ before. ap Ok (sym (append-nil before)), refl)

  pub read_more : (x : X) (xs : List X) (text : List ℕ) (trees : List Tree) → FirstAnd (λ text tree. read text tree ≡ Ok x) (AreRead read xs) text trees → AreRead read (x ∷ xs) text trees
  read_more x xs text trees (first, others, is, one, (all, many)) =
      let reads : (before : List X) → read_each (read text) before trees ≡ Ok (before ++ (x ∷ xs)) =
      λ before. ap (read_each (read text) before) is ∙ ap (λ (r : Result X ℕ). r >>= λ a. read_each (read text) (before ++ a ∷ []) others) one ∙ all (before ++ x ∷ []) ∙ ap Ok (append_assoc before (x ∷ []) xs) in
      (reads, ap length is ∙ ap suc many)

  module _ (print : X → List ℕ) (Good : X → Type 0) (depth : ℕ) (shows : (x : X) → Good x → Shows (λ text tree. read text tree ≡ Ok x) depth (print x)) where
    blank : (xs : List X) → ends_word (after_spaces print xs) ≡ true
    blank [] = refl
    blank (x ∷ xs) = refl

    pub rows_after : (xs : List X) → AllByRecursion Good xs → ShowsRow (AreRead read xs) depth (after_spaces print xs)
    rows_after [] all = row_none (AreRead read []) depth read_none
    rows_after (x ∷ xs) all =
        row_behind (AreRead read (x ∷ xs)) depth (codes " ") (print x ++ after_spaces print xs) refl
        (row_same (FirstAnd (λ text tree. read text tree ≡ Ok x) (AreRead read xs)) (AreRead read (x ∷ xs)) depth (print x ++ after_spaces print xs) (read_more x xs)
        (row_more (λ text tree. read text tree ≡ Ok x) (AreRead read xs) depth (print x) (after_spaces print xs) (shows x all.0) (blank xs) (rows_after xs all.1)))

    pub rows_spaced : (xs : List X) → AllByRecursion Good xs → ShowsRow (AreRead read xs) depth (spaced print xs)
    rows_spaced [] all = row_none (AreRead read []) depth read_none
    rows_spaced (x ∷ xs) all =
        row_same (FirstAnd (λ text tree. read text tree ≡ Ok x) (AreRead read xs)) (AreRead read (x ∷ xs)) depth (print x ++ after_spaces print xs) (read_more x xs)
        (row_more (λ text tree. read text tree ≡ Ok x) (AreRead read xs) depth (print x) (after_spaces print xs) (shows x all.0) (blank xs) (rows_after xs all.1))

  pub list_is : (xs : List X) (text : List ℕ) (tree : Tree) → Within (AreRead read xs) text tree → in_list (read_each (read text) []) tree ≡ Ok xs
  list_is xs text tree (items, start, end, is, (all, many)) = ap (in_list (read_each (read text) [])) is ∙ ap (read_each (read text) []) (items_hidden-the_row-Tree-0 items) ∙ all []
