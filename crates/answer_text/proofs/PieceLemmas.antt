-- The tokens that a text goes on with, where a piece stands in it.
use Rattle.std.proofs.Common.{ℕ, ◌≡◌, ◌+◌, ◌-◌, List, [], ◌∷◌, ◌++◌, length, take, drop, Bool, true, false, cond, not, ◌||◌, ◌==◌, Some, refl, sym, ap, ◌∙◌, arith, drop-drop, drop_at, take_at}
use Rattle.std.specs.List.{list_all}
use Rattle.base.specs.Bytes.{is_symbol_byte, is_white}
use Rattle.sexp_read.specs.declared.tree.LeafKind.{LeafKind}
use Rattle.sexp_read.specs.declared.tree.LeafKind.TheVariants.{Quoted}
use Rattle.sexp_read.specs.declared.token.Token.{Token}
use Rattle.sexp_read.specs.declared.token.Token.TheVariants as token
use Rattle.sexp_read.specs.Leaves.{between}
use Rattle.sexp_read.specs.Lexicon.{after_gap, after_comment, after_word, after_plain, word_kind, kind_token, word_at, quoted_of, quoted_at, literal_at, keyword_at, token_by, token_at, next_token}
use Rattle.term_tree.proofs.Public.{both_true}

-- no word goes on there
abbrev pub ends_word : List ℕ → Bool
ends_word [] = true
ends_word (b ∷ rest) = not (is_symbol_byte b)

-- no bar and no backslash
abbrev pub is_plain : ℕ → Bool
is_plain b = not (b == 124 || b == 92)

pub not_true : (b : Bool) → not b ≡ true → b ≡ false
not_true true h = absurd (cc)
not_true false h = refl

pub ends_more : (piece rest : List ℕ) → ends_word piece ≡ true → ends_word rest ≡ true → ends_word (piece ++ rest) ≡ true
ends_more [] rest h k = k
ends_more (b ∷ piece) rest h k = h

-- what stands behind a piece
pub past : (text piece rest : List ℕ) (at : ℕ) → drop at text ≡ piece ++ rest → drop (at + length piece) text ≡ rest
past text piece rest at is = sym (drop-drop (length piece) at text) ∙ ap (drop (length piece)) is ∙ drop_at piece rest (length piece) refl

-- a piece is cut out of the text
pub cut : (text piece rest : List ℕ) (at : ℕ) → drop at text ≡ piece ++ rest → between text at (at + length piece) ≡ piece
cut text piece rest at is =
    let long : at + length piece - at ≡ length piece = omega arith in
    ap (λ (n : ℕ). take n (drop at text)) long ∙ ap (take (length piece)) is ∙ take_at piece rest (length piece) refl

here : (text : List ℕ) (at b : ℕ) (rest : List ℕ) → drop at text ≡ b ∷ rest → is_white b ≡ false → (b == 59) ≡ false → next_token text at ≡ token_by text at (b ∷ rest)
unfolding next_token
here text at b rest is white comment =
    let same : after_gap at (drop at text) ≡ at =
    ap (after_gap at) is ∙ ap (λ w. cond w (after_gap (at + 1) rest) (cond (b == 59) (after_comment (at + 1) rest) at)) white ∙ ap (λ c. cond c (after_comment (at + 1) rest) at) comment in
    ap (token_at text) same ∙ ap (token_by text at) is

pub opens : (text : List ℕ) (at : ℕ) (rest : List ℕ) → drop at text ≡ 40 ∷ rest → next_token text at ≡ token.Open at
opens text at rest is = here text at 40 rest is refl refl

pub closes : (text : List ℕ) (at : ℕ) (rest : List ℕ) → drop at text ≡ 41 ∷ rest → next_token text at ≡ token.Close at
closes text at rest is = here text at 41 rest is refl refl

pub at_end : (text : List ℕ) (at : ℕ) → drop at text ≡ [] → next_token text at ≡ token.End
unfolding next_token
at_end text at is = ap (token_at text) (ap (after_gap at) is) ∙ ap (token_by text at) is

skipped : (text : List ℕ) (at b : ℕ) (rest : List ℕ) → drop at text ≡ b ∷ rest → is_white b ≡ true → next_token text at ≡ next_token text (at + 1)
unfolding next_token
skipped text at b rest is white =
    let next : drop (at + 1) text ≡ rest = past text (b ∷ []) rest at is in
    ap (token_at text) (ap (after_gap at) is ∙ ap (λ w. cond w (after_gap (at + 1) rest) (cond (b == 59) (after_comment (at + 1) rest) at)) white ∙ sym (ap (after_gap (at + 1)) next))

-- white space is passed over
pub gap_skipped : (text gap rest : List ℕ) (at : ℕ) → list_all is_white gap ≡ true → drop at text ≡ gap ++ rest → next_token text at ≡ next_token text (at + length gap)
gap_skipped text [] rest at white is = ap (next_token text) (let e : at ≡ at + 0 = omega arith in e)
gap_skipped text (b ∷ gap) rest at white is =
    let both = both_true (is_white b) (list_all is_white gap) white in
    skipped text at b (gap ++ rest) is both.0 ∙ gap_skipped text gap rest (at + 1) both.1 (past text (b ∷ []) (gap ++ rest) at is)
    ∙ ap (next_token text) (let e : at + 1 + length gap ≡ at + length (b ∷ gap) = omega arith in e)

-- Words.

same_byte : (b c : ℕ) → (b == c) ≡ true → b ≡ c
same_byte b c h = grind arith

differs : (b c : ℕ) → is_symbol_byte b ≡ true → is_symbol_byte c ≡ false → (b == c) ≡ false
differs b c symbol other = by (b == c) refl
  where
    by : (t : Bool) → (b == c) ≡ t → (b == c) ≡ false
    by false h = h
    by true h = let same : b ≡ c = same_byte b c h in let e : true ≡ false = sym symbol ∙ ap is_symbol_byte same ∙ other in absurd (cc)

after_word_is : (word rest : List ℕ) (at : ℕ) → list_all is_symbol_byte word ≡ true → ends_word rest ≡ true → after_word at (word ++ rest) ≡ at + length word
after_word_is [] [] at all ends = omega arith
after_word_is [] (b ∷ rest) at all ends = ap (λ t. cond t (after_word (at + 1) rest) at) (not_true (is_symbol_byte b) ends) ∙ (let e : at ≡ at + 0 = omega arith in e)
after_word_is (b ∷ word) rest at all ends =
    let both = both_true (is_symbol_byte b) (list_all is_symbol_byte word) all in
    ap (λ t. cond t (after_word (at + 1) (word ++ rest)) at) both.0 ∙ after_word_is word rest (at + 1) both.1 ends ∙ (let e : at + 1 + length word ≡ at + length (b ∷ word) = omega arith in e)

by_byte : (text : List ℕ) (at b : ℕ) (rest : List ℕ) → is_symbol_byte b ≡ true → token_by text at (b ∷ rest) ≡ word_at text at
by_byte text at b rest symbol =
    let word : Token = word_at text at in
    let t5 : Token = cond (b == 58) (keyword_at text at) (cond (is_symbol_byte b) word (token.BadByte at)) in
    let t4 : Token = cond (b == 34) (literal_at text at) t5 in
    let t3 : Token = cond (b == 124) (quoted_at text at) t4 in
    let t2 : Token = cond (b == 41) (token.Close at) t3 in
    ap (λ t. cond t (token.Open at) t2) (differs b 40 symbol refl) ∙ ap (λ t. cond t (token.Close at) t3) (differs b 41 symbol refl)
    ∙ ap (λ t. cond t (quoted_at text at) t4) (differs b 124 symbol refl) ∙ ap (λ t. cond t (literal_at text at) t5) (differs b 34 symbol refl)
    ∙ ap (λ t. cond t (keyword_at text at) (cond (is_symbol_byte b) word (token.BadByte at))) (differs b 58 symbol refl)
    ∙ ap (λ t. cond t word (token.BadByte at)) symbol

not_white : (b : ℕ) → is_symbol_byte b ≡ true → is_white b ≡ false
not_white b symbol =
    let tab = differs b 9 symbol refl in
    let feed = differs b 10 symbol refl in
    let return = differs b 13 symbol refl in
    let blank = differs b 32 symbol refl in
    simp (tab, feed, return, blank)

pub word_token : (text : List ℕ) (at b : ℕ) (bs rest : List ℕ) (kind : LeafKind) → drop at text ≡ (b ∷ bs) ++ rest → list_all is_symbol_byte (b ∷ bs) ≡ true → word_kind (b ∷ bs) ≡ Some kind
    → ends_word rest ≡ true → next_token text at ≡ token.Leaf kind at (at + length (b ∷ bs))
word_token text at b bs rest kind is all sort ends =
    let symbol = (both_true (is_symbol_byte b) (list_all is_symbol_byte bs) all).0 in
    let end : after_word at (drop at text) ≡ at + length (b ∷ bs) = ap (after_word at) is ∙ after_word_is (b ∷ bs) rest at all ends in
    here text at b (bs ++ rest) is (not_white b symbol) (differs b 59 symbol refl) ∙ by_byte text at b (bs ++ rest) symbol
    ∙ ap (λ (e : ℕ). kind_token at e (word_kind (take (e - at) (drop at text)))) end
    ∙ ap (λ (bytes : List ℕ). kind_token at (at + length (b ∷ bs)) (word_kind bytes)) (cut text (b ∷ bs) rest at is)
    ∙ ap (kind_token at (at + length (b ∷ bs))) sort

-- Symbols between bars.

after_plain_is : (name rest : List ℕ) (at : ℕ) → list_all is_plain name ≡ true → after_plain at (name ++ 124 ∷ rest) ≡ at + length name
after_plain_is [] rest at all = omega arith
after_plain_is (b ∷ name) rest at all =
    let both = both_true (is_plain b) (list_all is_plain name) all in
    ap (λ t. cond t at (after_plain (at + 1) (name ++ 124 ∷ rest))) (not_true (b == 124 || b == 92) both.0) ∙ after_plain_is name rest (at + 1) both.1
    ∙ (let e : at + 1 + length name ≡ at + length (b ∷ name) = omega arith in e)

pub quoted_token : (text : List ℕ) (at : ℕ) (name rest : List ℕ) → drop at text ≡ 124 ∷ (name ++ 124 ∷ rest) → list_all is_plain name ≡ true
    → next_token text at ≡ token.Leaf Quoted at (at + 1 + length name + 1)
quoted_token text at name rest is all =
    let inside : drop (at + 1) text ≡ name ++ 124 ∷ rest = past text (124 ∷ []) (name ++ 124 ∷ rest) at is in
    let end : after_plain (at + 1) (drop (at + 1) text) ≡ at + 1 + length name = ap (after_plain (at + 1)) inside ∙ after_plain_is name rest (at + 1) all in
    here text at 124 (name ++ 124 ∷ rest) is refl refl
    ∙ ap (λ (e : ℕ). quoted_of at e (drop e text)) end
    ∙ ap (quoted_of at (at + 1 + length name)) (past text name (124 ∷ rest) (at + 1) inside)
