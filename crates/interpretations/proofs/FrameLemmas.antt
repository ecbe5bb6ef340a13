-- A tuple is in a frame by the lists of its lemmas exactly where it is by the rules' test.
use Rattle.std.proofs.Common.{◌≡◌, ℕ, zero, suc, ◌<◌, ◌≤◌, List, [], ◌∷◌, Bool, true, false, ◌&&◌, ◌||◌, refl, ap, sym, ◌∙◌, arith}
use Rattle.std.specs.Prelude.{ℤ, not, nat_lt, ◌==◌}
use Rattle.std.specs.List.{list_all}
use Rattle.std.proofs.lemmas.Bool.Decides.{nat_tests}
use Rattle.term_tree.proofs.Public.{both_true, eqb_self}
use Rattle.cube_forms.specs.Cubes.{cube_holds}
use Rattle.lemma_frames.specs.Frames.{FrameHolds, IsInFrame, lemma_of}
use Rattle.lemma_frames.specs.declared.framed.Framed.{Framed as KeptLemma}
use Rattle.book_rules.specs.Frames.{accepts, in_frame}
use Rattle.cube_rules.specs.Views.{lemmas_of}

less-true : (m n : ℕ) → m < n → nat_lt m n ≡ true
less-true m n h = grind (arith, nat_tests)

less-is : (m n : ℕ) → nat_lt m n ≡ true → m < n
less-is m n h = grind (arith, nat_tests)

least : (m n : ℕ) → nat_lt m n ≡ false → n ≤ m
least m n h = grind (arith, nat_tests)

not-less : (m n : ℕ) → n ≤ m → nat_lt m n ≡ false
not-less m n h = grind (arith, nat_tests)

same-number : (k part : ℕ) → (k == part) ≡ true → k ≡ part
same-number k part h = grind (arith, nat_tests)

not-true : (b : Bool) → not b ≡ true → b ≡ false
not-true false h = refl
not-true true h = absurd (cc)

module _ (pred k : ℕ) (tuple : List ℤ) where
  -- what the rules ask of one lemma
  abbrev lets-in : KeptLemma → Bool
  lets-in f = nat_lt f.level k || not ((f.pred == pred) && cube_holds tuple f.lemma)

  by-tests : (low same holds : Bool) → (low ≡ false → same ≡ true → holds ≡ false) → (low || not (same && holds)) ≡ true
  by-tests true same holds h = refl
  by-tests false false holds h = refl
  by-tests false true holds h = ap not (h refl refl)

  all-in : (lemmas : List KeptLemma) → ((n : ℕ) → IsInFrame lemmas pred k n → cube_holds tuple (lemma_of lemmas n) ≡ false) → list_all lets-in lemmas ≡ true
  all-in [] each = refl
  all-in (f ∷ lemmas) each =
      ap (λ (b : Bool). b && list_all lets-in lemmas)
      (by-tests (nat_lt f.level k) (f.pred == pred) (cube_holds tuple f.lemma) (λ low same. each 0 (omega arith, same-number f.pred pred same, least f.level k low)))
      ∙ all-in lemmas (λ n inside. each (suc n) ((let l = inside.0 in omega (arith, l)), inside.1, inside.2))

  tests-say : (low same holds : Bool) → low ≡ false → same ≡ true → (low || not (same && holds)) ≡ true → holds ≡ false
  tests-say true same holds low is h = absurd (cc)
  tests-say false false holds low is h = absurd (cc)
  tests-say false true holds low is h = not-true holds h

  each-in : (lemmas : List KeptLemma) → list_all lets-in lemmas ≡ true → (n : ℕ) → IsInFrame lemmas pred k n → cube_holds tuple (lemma_of lemmas n) ≡ false
  each-in [] all n inside = absurd (let l = inside.0 in omega (arith, l))
  each-in (f ∷ lemmas) all zero inside =
      tests-say (nat_lt f.level k) (f.pred == pred) (cube_holds tuple f.lemma) (not-less f.level k inside.2) (ap (λ (p : ℕ). p == pred) inside.1 ∙ eqb_self pred)
      (both_true (lets-in f) (list_all lets-in lemmas) all).0
  each-in (f ∷ lemmas) all (suc n) inside = each-in lemmas (both_true (lets-in f) (list_all lets-in lemmas) all).1 n ((let l = inside.0 in omega (arith, l)), inside.1, inside.2)

  as-tests : (lemmas : List KeptLemma) → list_all (λ e. nat_lt e.level k || accepts e.lemma (pred, tuple)) (lemmas_of lemmas) ≡ list_all lets-in lemmas
  as-tests [] = refl
  as-tests (f ∷ lemmas) = ap (λ (b : Bool). lets-in f && b) (as-tests lemmas)

  pub frame-in : (lemmas : List KeptLemma) → FrameHolds lemmas pred k tuple → in_frame (lemmas_of lemmas) k (pred, tuple) ≡ true
  frame-in lemmas h =
      ap (λ (b : Bool). b && list_all (λ e. nat_lt e.level k || accepts e.lemma (pred, tuple)) (lemmas_of lemmas)) (less-true 0 k h.0) ∙ as-tests lemmas ∙ all-in lemmas h.1

  pub in-frame : (lemmas : List KeptLemma) → in_frame (lemmas_of lemmas) k (pred, tuple) ≡ true → FrameHolds lemmas pred k tuple
  in-frame lemmas h =
      let both = both_true (nat_lt 0 k) (list_all (λ e. nat_lt e.level k || accepts e.lemma (pred, tuple)) (lemmas_of lemmas)) h in
      (less-is 0 k both.0, each-in lemmas (sym (as-tests lemmas) ∙ both.1))
