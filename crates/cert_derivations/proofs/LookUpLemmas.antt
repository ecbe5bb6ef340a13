-- Places of numbers in a list, and look-ups behind others.
use Rattle.std.proofs.Common.{◌≡◌, ℕ, zero, suc, ◌+◌, ◌<◌, List, [], ◌∷◌, ◌++◌, length, Bool, true, false, not, cond, inl, inr, refl, ap, sym, ◌∙◌, true≢false, arith}
use Rattle.std.specs.Prelude.{◌⊎◌, ◌==◌, slice_get, Some}
use Rattle.std.specs.List.{Contains, range_with_len}
use Rattle.std.proofs.lemmas.Bool.{eqb-true}
use Rattle.std.proofs.lemmas.List.FromFn.{get_or-range_with_len, length-range_with_len}
use Rattle.std.proofs.lemmas.Option.{slice_get-get_or}
use Rattle.term_tree.proofs.Public.{eqb_self}
use Rattle.cert_derivations.specs.Steps.{place_among}

pub some_is : {X : Type 0} (x y : X) → Some x ≡ Some y → x ≡ y
some_is x y e = cc

pub get_more : {X : Type 0} (xs ys : List X) (i : ℕ) (x : X) → slice_get xs i ≡ Some x → slice_get (xs ++ ys) i ≡ Some x
get_more [] ys i x at = absurd (cc)
get_more (y ∷ xs) ys zero x at = at
get_more (y ∷ xs) ys (suc i) x at = get_more xs ys i x at

-- one more behind them is the last
pub get_last : {X : Type 0} (xs : List X) (x : X) (i : ℕ) (y : X) → slice_get (xs ++ x ∷ []) i ≡ Some y → (slice_get xs i ≡ Some y) ⊎ ((i ≡ length xs) × (x ≡ y))
get_last [] x zero y at = inr (refl, some_is x y at)
get_last [] x (suc i) y at = absurd (cc)
get_last (z ∷ xs) x zero y at = inl at
get_last (z ∷ xs) x (suc i) y at = later (get_last xs x i y at)
  where
    later : (slice_get xs i ≡ Some y) ⊎ ((i ≡ length xs) × (x ≡ y)) → (slice_get (z ∷ xs) (suc i) ≡ Some y) ⊎ ((suc i ≡ length (z ∷ xs)) × (x ≡ y))
    later (inl there) = inl there
    later (inr last) = inr (ap suc last.0, last.1)

pub get_end : {X : Type 0} (xs : List X) (x : X) (i : ℕ) → i ≡ length xs → slice_get (xs ++ x ∷ []) i ≡ Some x
get_end [] x zero is = refl
get_end [] x (suc i) is = absurd (omega (arith, is))
get_end (y ∷ xs) x zero is = absurd (omega (arith, is))
get_end (y ∷ xs) x (suc i) is = get_end xs x i (omega (arith, is))

one_more : (k : ℕ) → 1 + k ≡ suc k
one_more k = omega arith

-- a number that is there has a place, and it stands at it, whatever follows
place_at : (before more : List ℕ) (p k : ℕ) → slice_get before k ≡ Some p → slice_get before (place_among (before ++ more) p) ≡ Some p
place_at [] more p k at = absurd (cc)
place_at (x ∷ before) more p k at = by_test (λ j e. place_at before more p j e) (x == p) refl k at
  where
    by_test : ((j : ℕ) → slice_get before j ≡ Some p → slice_get before (place_among (before ++ more) p) ≡ Some p) → (b : Bool) → (x == p) ≡ b
        → (j : ℕ) → slice_get (x ∷ before) j ≡ Some p → slice_get (x ∷ before) (place_among (x ∷ (before ++ more)) p) ≡ Some p
    by_test recur true e j at' =
        ap (λ (b : Bool). slice_get (x ∷ before) (cond (not b) (1 + place_among (before ++ more) p) 0)) e ∙ ap (λ (n : ℕ). Some n) (eqb-true x p e)
    by_test recur false e zero at' =
        let same : p ≡ x = some_is p x (sym at') in
        absurd (true≢false (sym (eqb_self p) ∙ ap (λ (n : ℕ). n == p) same ∙ e))
    by_test recur false e (suc j) at' =
        ap (λ (b : Bool). slice_get (x ∷ before) (cond (not b) (1 + place_among (before ++ more) p) 0)) e
        ∙ ap (slice_get (x ∷ before)) (one_more (place_among (before ++ more) p)) ∙ recur j at'

pub contains_at : (xs : List ℕ) (p : ℕ) → Contains xs p → (k : ℕ) × (slice_get xs k ≡ Some p)
contains_at xs p has = (has.0, slice_get-get_or xs has.0 p has.1 ∙ ap (λ (n : ℕ). Some n) has.2)

pub place_found : (before more : List ℕ) (p : ℕ) → Contains before p → slice_get before (place_among (before ++ more) p) ≡ Some p
place_found before more p has = let at = contains_at before p has in place_at before more p at.0 at.1

-- the first n numbers are those below n
pub range_contains : (n p : ℕ) → p < n → Contains (range_with_len 0 n) p
range_contains n p less = (p, (let long = length-range_with_len 0 n in omega (arith, less, long)), get_or-range_with_len 0 n p p less ∙ none p)
  where
    none : (k : ℕ) → 0 + k ≡ k
    none k = omega arith
