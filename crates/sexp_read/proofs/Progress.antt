-- Tokens lie ahead and within the text.
use Rattle.std.proofs.Common.{ℕ, suc, ◌≡◌, ◌+◌, ◌-◌, ◌<◌, ◌≤◌, length, List, [], ◌∷◌, Option, None, Some, Bool, true, false, cond, refl, ap, ◌∙◌, arith, take, drop}
use Rattle.std.specs.Prelude.{IfSome, ◌||◌, ◌==◌}
use Rattle.std.proofs.lemmas.List.{length-drop}
use Rattle.base.specs.Bytes.{is_symbol_byte, is_white}
use Rattle.sexp_read.specs.declared.tree.LeafKind.{LeafKind}
use Rattle.sexp_read.specs.declared.tree.LeafKind.TheVariants.{Quoted, Keyword}
use Rattle.sexp_read.specs.declared.token.Token.{Token}
use Rattle.sexp_read.specs.declared.token.Token.TheVariants as token
use Rattle.sexp_read.specs.Lexicon.{after_gap, after_comment, after_word, after_plain, after_literal, after_quote, word_kind, kind_token, word_at, keyword_at, quoted_of, quoted_at, literal_of, literal_at, token_by, next_token}

-- what is said of both is said of the one that is chosen
either : {A : Type 0} (P : A → Type 0) (b : Bool) (x y : A) → P x → P y → P (cond b x y)
either P true x y p q = p
either P false x y p q = q

chosen : {A : Type 0} (P : A → Type 0) (b : Bool) (x y : A) → (b ≡ true → P x) → (b ≡ false → P y) → P (cond b x y)
chosen P true x y p q = p refl
chosen P false x y p q = q refl

abbrev Spans : ℕ → List ℕ → ℕ → Type 0
Spans at bytes after = (at ≤ after) × (after ≤ at + length bytes)

spans_more : (at b : ℕ) (rest : List ℕ) (after : ℕ) → Spans (at + 1) rest after → Spans at (b ∷ rest) after
spans_more at b rest after h = (omega (arith, h.0), omega (arith, h.1))

spans_none : (at : ℕ) (bytes : List ℕ) → Spans at bytes at
spans_none at bytes = (omega arith, omega arith)

mutual
  pub gap_spans : (bytes : List ℕ) (at : ℕ) → Spans at bytes (after_gap at bytes)
  gap_spans [] at = spans_none at []
  gap_spans (b ∷ rest) at =
      either (Spans at (b ∷ rest)) (is_white b) (after_gap (at + 1) rest) (cond (b == 59) (after_comment (at + 1) rest) at) (spans_more at b rest (after_gap (at + 1) rest) (gap_spans rest (at + 1)))
      (either (Spans at (b ∷ rest)) (b == 59) (after_comment (at + 1) rest) at (spans_more at b rest (after_comment (at + 1) rest) (comment_spans rest (at + 1))) (spans_none at (b ∷ rest)))

  pub comment_spans : (bytes : List ℕ) (at : ℕ) → Spans at bytes (after_comment at bytes)
  comment_spans [] at = spans_none at []
  comment_spans (b ∷ rest) at =
      either (Spans at (b ∷ rest)) (b == 10 || b == 13) (after_gap (at + 1) rest) (after_comment (at + 1) rest)
      (spans_more at b rest (after_gap (at + 1) rest) (gap_spans rest (at + 1))) (spans_more at b rest (after_comment (at + 1) rest) (comment_spans rest (at + 1)))

pub word_spans : (bytes : List ℕ) (at : ℕ) → Spans at bytes (after_word at bytes)
word_spans [] at = spans_none at []
word_spans (b ∷ rest) at =
    either (Spans at (b ∷ rest)) (is_symbol_byte b) (after_word (at + 1) rest) at (spans_more at b rest (after_word (at + 1) rest) (word_spans rest (at + 1))) (spans_none at (b ∷ rest))

pub plain_spans : (bytes : List ℕ) (at : ℕ) → Spans at bytes (after_plain at bytes)
plain_spans [] at = spans_none at []
plain_spans (b ∷ rest) at =
    either (Spans at (b ∷ rest)) (b == 124 || b == 92) at (after_plain (at + 1) rest) (spans_none at (b ∷ rest)) (spans_more at b rest (after_plain (at + 1) rest) (plain_spans rest (at + 1)))

some_more : (at b : ℕ) (rest : List ℕ) (after : Option ℕ) → IfSome after (Spans (at + 1) rest) → IfSome after (Spans at (b ∷ rest))
some_more at b rest None h = tt
some_more at b rest (Some after) h = spans_more at b rest after h

mutual
  pub literal_spans : (bytes : List ℕ) (at : ℕ) → IfSome (after_literal at bytes) (Spans at bytes)
  literal_spans [] at = tt
  literal_spans (b ∷ rest) at =
      either (λ o. IfSome o (Spans at (b ∷ rest))) (b == 34) (after_quote (at + 1) rest) (after_literal (at + 1) rest)
      (some_more at b rest (after_quote (at + 1) rest) (quote_spans rest (at + 1))) (some_more at b rest (after_literal (at + 1) rest) (literal_spans rest (at + 1)))

  pub quote_spans : (bytes : List ℕ) (at : ℕ) → IfSome (after_quote at bytes) (Spans at bytes)
  quote_spans [] at = spans_none at []
  quote_spans (b ∷ rest) at =
      either (λ o. IfSome o (Spans at (b ∷ rest))) (b == 34) (after_literal (at + 1) rest) (Some at)
      (some_more at b rest (after_literal (at + 1) rest) (literal_spans rest (at + 1))) (spans_none at (b ∷ rest))

-- a token lies behind an offset, and ends with the text at the latest
abbrev pub IsAhead : List ℕ → ℕ → Token → Type 0
IsAhead text at token.End = Unit {0}
IsAhead text at (token.Open start) = (at ≤ start) × (start < length text)
IsAhead text at (token.Close start) = (at ≤ start) × (start < length text)
IsAhead text at (token.Leaf kind start end) = (at ≤ start) × (start < end) × (end ≤ length text)
IsAhead text at (token.BadByte offset) = (at ≤ offset) × (offset < length text)
IsAhead text at (token.Unclosed start) = (at ≤ start) × (start < length text)

word_begins : (text : List ℕ) (start b : ℕ) (rest : List ℕ) → drop start text ≡ b ∷ rest → is_symbol_byte b ≡ true → (start < after_word start (drop start text)) × (after_word start (drop start text) ≤ length text)
word_begins text start b rest e h =
    let at_byte : after_word start (drop start text) ≡ after_word (start + 1) rest = ap (after_word start) e ∙ ap (λ t. cond t (after_word (start + 1) rest) start) h in
    let spans = word_spans rest (start + 1) in
    let long : length (drop start text) ≡ suc (length rest) = ap length e in
    (omega (arith, spans.0), omega (arith, spans.1, length-drop start text))

kind_token_ahead : (text : List ℕ) (at start end : ℕ) (kind : Option LeafKind) → at ≤ start → start < end → end ≤ length text → IsAhead text at (kind_token start end kind)
kind_token_ahead text at start end None h g f = (h, omega arith)
kind_token_ahead text at start end (Some kind) h g f = (h, g, f)

quoted_of_ahead : (text : List ℕ) (at start end : ℕ) (rest : List ℕ) → at ≤ start → start < end → drop end text ≡ rest → start < length text → IsAhead text at (quoted_of start end rest)
quoted_of_ahead text at start end [] h g e l = (h, l)
quoted_of_ahead text at start end (b ∷ rest) h g e l =
    let long : length (drop end text) ≡ suc (length rest) = ap length e in
    either (IsAhead text at) (b == 124) (token.Leaf Quoted start (end + 1)) (token.BadByte end) (h, omega arith, omega (arith, length-drop end text)) (omega arith, omega (arith, length-drop end text))

literal_of_ahead : (text : List ℕ) (at start : ℕ) (rest : List ℕ) (end : Option ℕ) → at ≤ start → start < length text → start + 1 + length rest ≤ length text → IfSome end (Spans (start + 1) rest) → IsAhead text at (literal_of start end)
literal_of_ahead text at start rest None h l r s = (h, l)
literal_of_ahead text at start rest (Some end) h l r s = (h, omega (arith, s.0), omega (arith, s.1))

keyword_ahead : (text : List ℕ) (at start : ℕ) → at ≤ start → start < length text → IsAhead text at (keyword_at text start)
keyword_ahead text at start h l =
    let end = after_word (start + 1) (drop (start + 1) text) in
    let spans = word_spans (drop (start + 1) text) (start + 1) in
    either (IsAhead text at) (end == start + 1) (token.BadByte start) (token.Leaf Keyword start end) (h, l) (h, omega (arith, spans.0), omega (arith, spans.1, length-drop (start + 1) text))

token_ahead : (text : List ℕ) (at start : ℕ) (bytes : List ℕ) → at ≤ start → drop start text ≡ bytes → IsAhead text at (token_by text start bytes)
token_ahead text at start [] h e = tt
token_ahead text at start (b ∷ rest) h e =
    let long : length (drop start text) ≡ suc (length rest) = ap length e in
    let l : start < length text = omega (arith, length-drop start text) in
    let after : length (drop (start + 1) text) + start + 1 ≡ length text = omega (arith, length-drop (start + 1) text) in
    let P = IsAhead text at in
    let bad = token.BadByte start in
    let word = word_at text start in
    let keyword = keyword_at text start in
    let literal = literal_at text start in
    let quoted = quoted_at text start in
    let t6 = cond (is_symbol_byte b) word bad in
    let t5 = cond (b == 58) keyword t6 in
    let t4 = cond (b == 34) literal t5 in
    let t3 = cond (b == 124) quoted t4 in
    let t2 = cond (b == 41) (token.Close start) t3 in
    let plain = plain_spans (drop (start + 1) text) (start + 1) in
    either P (b == 40) (token.Open start) t2 (h, l)
    (either P (b == 41) (token.Close start) t3 (h, l)
    (either P (b == 124) quoted t4 (quoted_of_ahead text at start (after_plain (start + 1) (drop (start + 1) text)) (drop (after_plain (start + 1) (drop (start + 1) text)) text) h (omega (arith, plain.0)) refl l)
    (either P (b == 34) literal t5 (literal_of_ahead text at start (drop (start + 1) text) (after_literal (start + 1) (drop (start + 1) text)) h l (omega arith) (literal_spans (drop (start + 1) text) (start + 1)))
    (either P (b == 58) keyword t6 (keyword_ahead text at start h l)
    (chosen P (is_symbol_byte b) word bad
    (λ s. let w = word_begins text start b rest e s in
    kind_token_ahead text at start (after_word start (drop start text)) (word_kind (take (after_word start (drop start text) - start) (drop start text))) h w.0 w.1)
    (λ _. (h, l)))))))

pub next_ahead : (text : List ℕ) (at : ℕ) → IsAhead text at (next_token text at)
unfolding next_token
next_ahead text at = token_ahead text at (after_gap at (drop at text)) (drop (after_gap at (drop at text)) text) ((gap_spans (drop at text) at).0) refl
