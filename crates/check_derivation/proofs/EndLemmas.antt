-- Lines that are all right, by what the last concludes.
use Rattle.std.proofs.Common.{◌≡◌, ℕ, zero, suc, ◌+◌, ◌-◌, ◌<◌, List, [], ◌∷◌, ◌++◌, length, get_or, true, inr, refl, ap, sym, ◌∙◌, subst, arith}
use Rattle.std.proofs.lemmas.List.{get_or_push, length-append}
use Rattle.std.proofs.lemmas.Option.{slice_get_within}
use Rattle.std.specs.Prelude.{Option, Some, None, slice_get}
use Rattle.term_tree.specs.declared.scalar.Value.{Value}
use Rattle.term_tree.specs.declared.script.Script.{Script}
use Rattle.answer_text.specs.declared.answer.Line.{Line}
use Rattle.cert_derivations.specs.Claims.{DeriveFalse, IsLine}
use Rattle.cert_derivations.proofs.Public.{right_lines}
use Rattle.check_derivation.specs.Findings.{AreRightBefore, IsWrongAt}

last_split : {X : Type 0} (xs : List X) (n : ℕ) (d : X) → length xs ≡ suc n → (before : List X) × (xs ≡ before ++ get_or xs n d ∷ [])
last_split [] n d h = absurd (omega (arith, h))
last_split (x ∷ []) zero d h = ([], refl)
last_split (x ∷ []) (suc n) d h = absurd (omega (arith, h))
last_split (x ∷ y ∷ xs) zero d h = absurd (omega (arith, h))
last_split (x ∷ y ∷ xs) (suc n) d h = let found = last_split (y ∷ xs) n d (omega (arith, h)) in (x ∷ found.0, ap (λ l. x ∷ l) found.1)

each_right : (script : Script) (lines : List Line) → AreRightBefore script lines (length lines) → (place : ℕ) (line : Line) → slice_get lines place ≡ Some line → IsLine script lines place line
each_right script lines right place line there = right place line (slice_get_within lines place line there) there

pub derives : (script : Script) (lines : List Line) (n : ℕ) (last : Line) → length lines ≡ suc n → last ≡ get_or lines n last → last.head ≡ None → AreRightBefore script lines (length lines)
    → DeriveFalse script lines
derives script lines n last long is none right =
    let found = last_split lines n last long in
    right_lines script lines (record {
      each = each_right script lines right;
      before = found.0;
      last = last;
      ends = found.1 ∙ ap (λ (l : Line). found.0 ++ l ∷ []) (sym is);
      is_false = none;
    })

last_at : (lines before : List Line) (n : ℕ) (d last : Line) → length lines ≡ suc n → lines ≡ before ++ last ∷ [] → get_or lines n d ≡ last
last_at lines before n d last long ends =
    let counted : length lines ≡ length before + 1 = ap (λ (l : List Line). length l) ends ∙ length-append before (last ∷ []) in
    let same : n ≡ length before = omega (arith, long, counted) in
    ap (λ (l : List Line). get_or l n d) ends ∙ get_or_push before last d n (sym same)

pub ends_elsewhere : (script : Script) (lines : List Line) (n : ℕ) (last : Line) (said : ℕ × List Value) → length lines ≡ suc n → last ≡ get_or lines n last → last.head ≡ Some said
    → AreRightBefore script lines (length lines) → IsWrongAt script lines (suc n)
ends_elsewhere script lines n last said long is some right =
    inr (record {
      counted = sym long;
      right = right;
      not_false = λ before other ends none.
          let same : last ≡ other = is ∙ last_at lines before n last other long ends in
          differs (sym some ∙ ap (λ (l : Line). l.head) same ∙ none);
    })
  where
    differs : Some said ≡ None → ⊥
    differs e = absurd (cc)

pub ends_nowhere : (script : Script) (lines : List Line) → length lines ≡ 0 → AreRightBefore script lines (length lines) → IsWrongAt script lines 0
ends_nowhere script lines none right =
    inr (record {
      counted = sym none;
      right = right;
      not_false = λ before other ends no.
          let counted : length lines ≡ length before + 1 = ap (λ (l : List Line). length l) ends ∙ length-append before (other ∷ []) in
          absurd (omega (arith, none, counted));
    })
