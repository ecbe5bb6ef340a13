-- The step and the end of each run along a text.
use Rattle.std.proofs.Common.{ℕ, ◌≡◌, ◌≢◌, sym, ap, ◌∙◌, ◌+◌, ◌<◌, ◌≤◌, length, List, None, Some, false, cond, eqb, get_or, drop, arith}
use Rattle.std.specs.Prelude.{◌||◌}
use Rattle.std.proofs.lemmas.List.{at_drop_more, at_drop_all}
use Rattle.base.specs.Bytes.{is_digit, is_symbol_byte, is_white}
use Rattle.sexp_read.specs.Lexicon.{after_gap, after_comment, after_word, after_plain, after_literal, after_quote, digits_in_front, quoted_of, quoted_at, literal_at, keyword_at, word_at, token_by, token_at}
use Rattle.sexp_read.specs.declared.tree.LeafKind.TheVariants.{Quoted}
use Rattle.sexp_read.specs.declared.token.Token.{Token}
use Rattle.sexp_read.specs.declared.token.Token.TheVariants.{End, Open, Close, Leaf, BadByte, Unclosed}

pub gap_more : (text : List ℕ) (at : ℕ) → at < length text → after_gap at (drop at text)
    ≡ cond (is_white (get_or text at 0)) (after_gap (at + 1) (drop (at + 1) text)) (cond (eqb (get_or text at 0) 59) (after_comment (at + 1) (drop (at + 1) text)) at)
gap_more text at h = at_drop_more (after_gap at) text at 0 h

pub gap_all : (text : List ℕ) (at : ℕ) → length text ≤ at → after_gap at (drop at text) ≡ at
gap_all text at h = at_drop_all (after_gap at) text at h

pub comment_more : (text : List ℕ) (at : ℕ) → at < length text → after_comment at (drop at text)
    ≡ cond (eqb (get_or text at 0) 10 || eqb (get_or text at 0) 13) (after_gap (at + 1) (drop (at + 1) text)) (after_comment (at + 1) (drop (at + 1) text))
comment_more text at h = at_drop_more (after_comment at) text at 0 h

pub comment_all : (text : List ℕ) (at : ℕ) → length text ≤ at → after_comment at (drop at text) ≡ at
comment_all text at h = at_drop_all (after_comment at) text at h

pub word_more : (text : List ℕ) (at : ℕ) → at < length text → after_word at (drop at text) ≡ cond (is_symbol_byte (get_or text at 0)) (after_word (at + 1) (drop (at + 1) text)) at
word_more text at h = at_drop_more (after_word at) text at 0 h

pub word_all : (text : List ℕ) (at : ℕ) → length text ≤ at → after_word at (drop at text) ≡ at
word_all text at h = at_drop_all (after_word at) text at h

pub plain_more : (text : List ℕ) (at : ℕ) → at < length text → after_plain at (drop at text)
    ≡ cond (eqb (get_or text at 0) 124 || eqb (get_or text at 0) 92) at (after_plain (at + 1) (drop (at + 1) text))
plain_more text at h = at_drop_more (after_plain at) text at 0 h

pub plain_all : (text : List ℕ) (at : ℕ) → length text ≤ at → after_plain at (drop at text) ≡ at
plain_all text at h = at_drop_all (after_plain at) text at h

pub literal_more : (text : List ℕ) (at : ℕ) → at < length text → after_literal at (drop at text)
    ≡ cond (eqb (get_or text at 0) 34) (after_quote (at + 1) (drop (at + 1) text)) (after_literal (at + 1) (drop (at + 1) text))
literal_more text at h = at_drop_more (after_literal at) text at 0 h

pub literal_all : (text : List ℕ) (at : ℕ) → length text ≤ at → after_literal at (drop at text) ≡ None
literal_all text at h = at_drop_all (after_literal at) text at h

pub quote_more : (text : List ℕ) (at : ℕ) → at < length text → after_quote at (drop at text)
    ≡ cond (eqb (get_or text at 0) 34) (after_literal (at + 1) (drop (at + 1) text)) (Some at)
quote_more text at h = at_drop_more (after_quote at) text at 0 h

pub quote_all : (text : List ℕ) (at : ℕ) → length text ≤ at → after_quote at (drop at text) ≡ Some at
quote_all text at h = at_drop_all (after_quote at) text at h

pub ruleset runs = (gap_more, gap_all, comment_more, comment_all, word_more, word_all, plain_more, plain_all, literal_more, literal_all, quote_more, quote_all)

pub digits_more : (bytes : List ℕ) (i : ℕ) → i < length bytes → digits_in_front (drop i bytes)
    ≡ cond (is_digit (get_or bytes i 0)) (digits_in_front (drop (i + 1) bytes) + 1) 0
digits_more bytes i h = at_drop_more digits_in_front bytes i 0 h

pub digits_all : (bytes : List ℕ) (i : ℕ) → length bytes ≤ i → digits_in_front (drop i bytes) ≡ 0
digits_all bytes i h = at_drop_all digits_in_front bytes i h

pub ruleset digits = (digits_more, digits_all)

pub quoted_more : (text : List ℕ) (start end : ℕ) → end < length text → quoted_of start end (drop end text)
    ≡ cond (eqb (get_or text end 0) 124) (Leaf Quoted start (end + 1)) (BadByte end)
quoted_more text start end h = at_drop_more (quoted_of start end) text end 0 h

pub quoted_all : (text : List ℕ) (start end : ℕ) → length text ≤ end → quoted_of start end (drop end text) ≡ Unclosed start
quoted_all text start end h = at_drop_all (quoted_of start end) text end h

pub ruleset quoted = (quoted_more, quoted_all)

-- the token by its first byte
abbrev pub chosen_by : List ℕ → ℕ → ℕ → Token
chosen_by text start b =
    cond (eqb b 40) (Open start)
    (cond (eqb b 41) (Close start)
    (cond (eqb b 124) (quoted_at text start)
    (cond (eqb b 34) (literal_at text start) (cond (eqb b 58) (keyword_at text start) (cond (is_symbol_byte b) (word_at text start) (BadByte start))))))

pub token_more : (text : List ℕ) (start : ℕ) → start < length text → token_at text start ≡ chosen_by text start (get_or text start 0)
token_more text start h = at_drop_more (token_by text start) text start 0 h

pub token_all : (text : List ℕ) (start : ℕ) → length text ≤ start → token_at text start ≡ End
token_all text start h = at_drop_all (token_by text start) text start h

not_equal : (a b : ℕ) → a ≢ b → eqb a b ≡ false
not_equal a b h = grind arith

pub literal_other : (text : List ℕ) (at : ℕ) → at < length text → get_or text at 0 ≢ 34 → after_literal (at + 1) (drop (at + 1) text) ≡ after_literal at (drop at text)
literal_other text at h ne = sym (literal_more text at h ∙ ap (λ b. cond b (after_quote (at + 1) (drop (at + 1) text)) (after_literal (at + 1) (drop (at + 1) text))) (not_equal (get_or text at 0) 34 ne))
