-- No symbol of a text has a bar or a backslash among its bytes.
use Rattle.std.proofs.Common.{◌≡◌, ℕ, suc, ◌+◌, ◌-◌, ◌≤◌, List, [], ◌∷◌, take, drop, Bool, true, false, not, cond, ◌==◌, ◌||◌, ◌&&◌, refl, sym, ap, subst, ◌∙◌, arith}
use Rattle.std.proofs.lemmas.Bool.{eqb-true}
use Rattle.std.specs.Prelude.{Option, None, Some, IfSome}
use Rattle.std.specs.List.{AllByRecursion}
use Rattle.base.specs.Bytes.{is_digit, is_symbol_byte}
use Rattle.base.specs.Numeral.{is_numeral}
use Rattle.sexp_read.specs.declared.tree.LeafKind.{LeafKind}
use Rattle.sexp_read.specs.declared.tree.LeafKind.TheVariants.{Symbol, Quoted, Numeral, Decimal, Keyword}
use Rattle.sexp_read.specs.declared.tree.Tree.{Tree, items_hidden-the_row-Tree-0}
use Rattle.sexp_read.specs.declared.token.Token.{Token}
use Rattle.sexp_read.specs.declared.token.Token.TheVariants as token
use Rattle.sexp_read.specs.Leaves.{symbol_of, symbol_bytes}
use Rattle.sexp_read.specs.Lexicon.{after_gap, after_word, after_plain, after_literal, is_decimal, number_kind, word_kind, kind_token, word_at, keyword_at, quoted_of, quoted_at, literal_of, literal_at, token_by, next_token}
use Rattle.sexp_read.specs.Trees.{IsTree, AreTrees, leaf, list, none, more}
use Rattle.sexp_read.proofs.Public.{plain_spans, word_spans}
use Rattle.term_check.specs.Spelling.{items_of}
use Rattle.answer_text.specs.ReadBack.{is_quotable}

-- what is said of both is said of the one that is chosen
either : {A : Type 0} (P : A → Type 0) (b : Bool) (x y : A) → P x → P y → P (cond b x y)
either P true x y p q = p
either P false x y p q = q

chosen : {A : Type 0} (P : A → Type 0) (b : Bool) (x y : A) → (b ≡ true → P x) → (b ≡ false → P y) → P (cond b x y)
chosen P true x y p q = p refl
chosen P false x y p q = q refl

abbrev pub IsQuotable : List ℕ → Type 0
IsQuotable bytes = is_quotable bytes ≡ true

-- Runs of bytes.

-- a bar or a backslash
abbrev is_mark : ℕ → Bool
is_mark b = b == 124 || b == 92

no_mark : (b : ℕ) → is_symbol_byte b ≡ true → is_mark b ≡ false
no_mark b symbol = by (b == 124) (b == 92) refl refl
  where
    other : (c : ℕ) → is_symbol_byte c ≡ false → (b == c) ≡ true → ⊥
    other c h e = let f : true ≡ false = sym symbol ∙ ap is_symbol_byte (eqb-true b c e) ∙ h in cc

    by : (s t : Bool) → (b == 124) ≡ s → (b == 92) ≡ t → (s || t) ≡ false
    by true t h k = absurd (other 124 refl h)
    by false true h k = absurd (other 92 refl k)
    by false false h k = refl

-- one byte more in front of those up to an offset
one_more : (at after b : ℕ) (rest : List ℕ) → at + 1 ≤ after → is_mark b ≡ false → IsQuotable (take (after - (at + 1)) rest) → IsQuotable (take (after - at) (b ∷ rest))
one_more at after b rest past plain h =
    let longer : after - at ≡ suc (after - (at + 1)) = omega (arith, past) in
    ap (λ (n : ℕ). is_quotable (take n (b ∷ rest))) longer ∙ ap (λ t. not t && is_quotable (take (after - (at + 1)) rest)) plain ∙ h

nothing : (at : ℕ) (bytes : List ℕ) → IsQuotable (take (at - at) bytes)
nothing at bytes = let e : at - at ≡ 0 = omega arith in ap (λ (n : ℕ). is_quotable (take n bytes)) e

word_run : (bytes : List ℕ) (at : ℕ) → IsQuotable (take (after_word at bytes - at) bytes)
word_run [] at = nothing at []
word_run (b ∷ rest) at =
    chosen (λ after. IsQuotable (take (after - at) (b ∷ rest))) (is_symbol_byte b) (after_word (at + 1) rest) at
    (λ h. one_more at (after_word (at + 1) rest) b rest (word_spans rest (at + 1)).0 (no_mark b h) (word_run rest (at + 1)))
    (λ h. nothing at (b ∷ rest))

plain_run : (bytes : List ℕ) (at : ℕ) → IsQuotable (take (after_plain at bytes - at) bytes)
plain_run [] at = nothing at []
plain_run (b ∷ rest) at =
    chosen (λ after. IsQuotable (take (after - at) (b ∷ rest))) (is_mark b) at (after_plain (at + 1) rest)
    (λ h. nothing at (b ∷ rest))
    (λ h. one_more at (after_plain (at + 1) rest) b rest (plain_spans rest (at + 1)).0 h (plain_run rest (at + 1)))

-- Tokens.

-- where the token is a symbol, it can stand between bars
abbrev IsQuotableToken : List ℕ → Token → Type 0
IsQuotableToken text (token.Leaf kind start end) = IfSome (symbol_of text kind start end) IsQuotable
IsQuotableToken text token.End = Unit {0}
IsQuotableToken text (token.Open start) = Unit {0}
IsQuotableToken text (token.Close start) = Unit {0}
IsQuotableToken text (token.BadByte offset) = Unit {0}
IsQuotableToken text (token.Unclosed start) = Unit {0}

number_quotable : (text bytes : List ℕ) (start end : ℕ) → IsQuotableToken text (kind_token start end (number_kind bytes))
number_quotable text bytes start end =
    let P : Option LeafKind → Type 0 = λ kind. IsQuotableToken text (kind_token start end kind) in
    either P (is_numeral bytes) (Some Numeral) (cond (is_decimal bytes) (Some Decimal) None) tt (either P (is_decimal bytes) (Some Decimal) None tt tt)

kind_quotable : (text bytes : List ℕ) (start end : ℕ) → IsQuotableToken text (token.Leaf Symbol start end) → IsQuotableToken text (kind_token start end (word_kind bytes))
kind_quotable text [] start end h = tt
kind_quotable text (b ∷ rest) start end h =
    either (λ kind. IsQuotableToken text (kind_token start end kind)) (is_digit b) (number_kind (b ∷ rest)) (Some Symbol) (number_quotable text (b ∷ rest) start end) h

word_quotable : (text : List ℕ) (start : ℕ) → IsQuotableToken text (word_at text start)
word_quotable text start =
    let end = after_word start (drop start text) in kind_quotable text (take (end - start) (drop start text)) start end (word_run (drop start text) start)

quoted_quotable : (text : List ℕ) (start : ℕ) → IsQuotableToken text (quoted_at text start)
quoted_quotable text start = by (after_plain (start + 1) inside) refl (drop (after_plain (start + 1) inside) text)
  where
    inside : List ℕ
    inside = drop (start + 1) text

    by : (end : ℕ) → after_plain (start + 1) inside ≡ end → (rest : List ℕ) → IsQuotableToken text (quoted_of start end rest)
    by end is [] = tt
    by end is (b ∷ rest) =
        let bars : end + 1 - 1 ≡ end = omega arith in
        either (IsQuotableToken text) (b == 124) (token.Leaf Quoted start (end + 1)) (token.BadByte end)
        (ap (λ (n : ℕ). is_quotable (take (n - (start + 1)) inside)) (bars ∙ sym is) ∙ plain_run inside (start + 1)) tt

literal_quotable : (text : List ℕ) (start : ℕ) (end : Option ℕ) → IsQuotableToken text (literal_of start end)
literal_quotable text start None = tt
literal_quotable text start (Some end) = tt

token_quotable : (text : List ℕ) (start : ℕ) (bytes : List ℕ) → IsQuotableToken text (token_by text start bytes)
token_quotable text start [] = tt
token_quotable text start (b ∷ rest) =
    let P = IsQuotableToken text in
    let word = word_at text start in
    let keyword = keyword_at text start in
    let t6 = cond (is_symbol_byte b) word (token.BadByte start) in
    let t5 = cond (b == 58) keyword t6 in
    let t4 = cond (b == 34) (literal_at text start) t5 in
    let t3 = cond (b == 124) (quoted_at text start) t4 in
    let t2 = cond (b == 41) (token.Close start) t3 in
    let end = after_word (start + 1) (drop (start + 1) text) in
    either P (b == 40) (token.Open start) t2 tt
    (either P (b == 41) (token.Close start) t3 tt
    (either P (b == 124) (quoted_at text start) t4 (quoted_quotable text start)
    (either P (b == 34) (literal_at text start) t5 (literal_quotable text start (after_literal (start + 1) (drop (start + 1) text)))
    (either P (b == 58) keyword t6 (either P (end == start + 1) (token.BadByte start) (token.Leaf Keyword start end) tt tt)
    (either P (is_symbol_byte b) word (token.BadByte start) (word_quotable text start) tt)))))

next_quotable : (text : List ℕ) (at : ℕ) → IsQuotableToken text (next_token text at)
unfolding next_token
next_quotable text at = let start = after_gap at (drop at text) in token_quotable text start (drop start text)

-- Trees.

-- where the tree is a symbol, it can stand between bars
abbrev pub HasQuotable : List ℕ → Tree → Type 0
HasQuotable text tree = IfSome (symbol_bytes text tree) IsQuotable

tree_quotable : (text : List ℕ) (depth at : ℕ) (tree : Tree) (after : ℕ) → IsTree text depth at tree after → HasQuotable text tree
tree_quotable text _ _ _ _ (leaf depth at kind start end is) = subst (IsQuotableToken text) is (next_quotable text at)
tree_quotable text _ _ _ _ (list depth at start items inner close opens below within closes) = tt

row_quotable : (text : List ℕ) (depth at : ℕ) (trees : List Tree) (after : ℕ) → AreTrees text depth at trees after → AllByRecursion (HasQuotable text) trees
row_quotable text _ _ _ _ (none depth at) = tt
row_quotable text _ _ _ _ (more depth at tree mid trees after t ts) = (tree_quotable text depth at tree mid t, row_quotable text depth mid trees after ts)

-- so may each symbol that stands in the tree
abbrev pub HoldsQuotable : List ℕ → Tree → Type 0
HoldsQuotable text tree = AllByRecursion (HasQuotable text) (items_of tree)

items_quotable : (text : List ℕ) (depth at : ℕ) (tree : Tree) (after : ℕ) → IsTree text depth at tree after → HoldsQuotable text tree
items_quotable text _ _ _ _ (leaf depth at kind start end is) = tt
items_quotable text _ _ _ _ (list depth at start items inner close opens below within closes) =
    subst (AllByRecursion (HasQuotable text)) (sym (items_hidden-the_row-Tree-0 items)) (row_quotable text (depth + 1) (start + 1) items inner within)

-- the trees of a text
pub commands_quotable : (text : List ℕ) (depth at : ℕ) (trees : List Tree) (after : ℕ) → AreTrees text depth at trees after → AllByRecursion (HoldsQuotable text) trees
commands_quotable text _ _ _ _ (none depth at) = tt
commands_quotable text _ _ _ _ (more depth at tree mid trees after t ts) = (items_quotable text depth at tree mid t, commands_quotable text depth mid trees after ts)
