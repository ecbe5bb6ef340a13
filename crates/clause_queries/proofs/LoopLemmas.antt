-- Loops that gather uses and numbers: the rest is to come.
use Rattle.std.proofs.Common.{◌≡◌, ℕ, ◌+◌, ◌<◌, ◌≤◌, zero, suc, List, [], ◌∷◌, ◌++◌, drop, length, get_or, Bool, true, false, ◌&&◌, cond, refl, ap, sym, ◌∙◌, arith}
use Rattle.std.specs.Prelude.{nat_le, ◌==◌}
use Rattle.std.specs.List.{list_all}
use Rattle.std.proofs.lemmas.List.{append-nil, append_assoc}
use Rattle.lemma_frames.specs.Frames.{lemma_of}
use Rattle.lemma_frames.specs.declared.framed.Framed.{Framed}
use Rattle.chc_tokens.specs.declared.used.Used.{Used}
use Rattle.clause_queries.specs.Kept.{is_kept, lemma_is_kept}
use Rattle.clause_queries.specs.Uses.{uses_on}
use Rattle.clause_queries.specs.machinery.Choices.{use_at}

plus-one : (n : ℕ) → n + 1 ≡ suc n
plus-one n = omega arith

rest-suc : {X : Type 0} (xs : List X) (i : ℕ) (x : X) → i < length xs → x ≡ get_or xs i x → drop i xs ≡ x ∷ drop (suc i) xs
rest-suc [] i x within is = absurd (omega arith)
rest-suc (y ∷ xs) zero x within is = ap (λ z. z ∷ xs) (sym is)
rest-suc (y ∷ xs) (suc i) x within is = rest-suc xs i x (omega arith) is

pub rest-is : {X : Type 0} (xs : List X) (i : ℕ) (x : X) → i < length xs → x ≡ get_or xs i x → drop i xs ≡ x ∷ drop (i + 1) xs
rest-is xs i x within is = rest-suc xs i x within is ∙ ap (λ k. x ∷ drop k xs) (sym (plus-one i))

pub rest-end : {X : Type 0} (xs : List X) (i : ℕ) → length xs ≤ i → drop i xs ≡ []
rest-end [] zero past = refl
rest-end [] (suc i) past = refl
rest-end (x ∷ xs) zero past = absurd (omega arith)
rest-end (x ∷ xs) (suc i) past = rest-end xs i (omega arith)

use-suc : (k number pred : ℕ) (fs : List Framed) (id : ℕ) → id < length fs → uses_on k number pred (drop id fs) ≡ use_at k number pred fs id ++ uses_on k number pred (drop (suc id) fs)
use-suc k number pred [] id within = absurd (omega arith)
use-suc k number pred (f ∷ fs) zero within = by (nat_le k f.level && (f.pred == pred))
  where
    by : (b : Bool) → cond {A = List Used} b (record { atom = number; lemma = f.lemma } ∷ uses_on k number pred fs) (uses_on k number pred fs) ≡ cond {A = List Used} b (record { atom = number; lemma = f.lemma } ∷ []) [] ++ uses_on k number pred fs
    by true = refl
    by false = refl
use-suc k number pred (f ∷ fs) (suc id) within = use-suc k number pred fs id (omega arith)

pub use-done : (k number pred : ℕ) (fs : List Framed) (id : ℕ) (items new whole : List Used) → id < length fs → new ≡ items ++ use_at k number pred fs id → items ++ uses_on k number pred (drop id fs) ≡ whole
    → new ++ uses_on k number pred (drop (id + 1) fs) ≡ whole
use-done k number pred fs id items new whole within made was =
    ap (λ (us : List Used). us ++ uses_on k number pred (drop (id + 1) fs)) made
    ∙ ap (λ i. (items ++ use_at k number pred fs id) ++ uses_on k number pred (drop i fs)) (plus-one id)
    ∙ append_assoc items (use_at k number pred fs id) (uses_on k number pred (drop (suc id) fs))
    ∙ ap (λ (us : List Used). items ++ us) (sym (use-suc k number pred fs id within)) ∙ was

pub uses-over : (k number pred : ℕ) (fs : List Framed) (id : ℕ) (items whole : List Used) → length fs ≤ id → items ++ uses_on k number pred (drop id fs) ≡ whole → items ≡ whole
uses-over k number pred fs id items whole past was = sym (append-nil items) ∙ sym (ap (λ (rest : List Framed). items ++ uses_on k number pred rest) (rest-end fs id past)) ∙ was

-- what is kept of each lemma

kept-suc : (fs : List Framed) (id : ℕ) → id < length fs → is_kept (lemma_of fs id) ≡ true → list_all lemma_is_kept (drop (suc id) fs) ≡ list_all lemma_is_kept (drop id fs)
kept-suc [] id within is = absurd (omega arith)
kept-suc (f ∷ fs) zero within is = sym (ap (λ b. b && list_all lemma_is_kept fs) is)
kept-suc (f ∷ fs) (suc id) within is = kept-suc fs id (omega arith) is

pub kept-done : (fs : List Framed) (id : ℕ) → id < length fs → is_kept (lemma_of fs id) ≡ true → list_all lemma_is_kept (drop id fs) ≡ list_all lemma_is_kept fs → list_all lemma_is_kept (drop (id + 1) fs) ≡ list_all lemma_is_kept fs
kept-done fs id within is was = ap (λ k. list_all lemma_is_kept (drop k fs)) (plus-one id) ∙ kept-suc fs id within is ∙ was
