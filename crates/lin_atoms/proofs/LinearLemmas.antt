-- Terms one by one: their sum at a point, their bounds, and the terms with the other sign.
use Rattle.std.proofs.Common.{◌≡◌, ℕ, suc, zero, List, [], ◌∷◌, ◌++◌, refl, ap, ◌∙◌, arith, ◌<◌, ◌≤◌, ◌+◌, ◌^◌, length, take, drop, get_or, ◌&&◌, true, false, Bool, subst, FitsSigned}
use Rattle.std.specs.Prelude.{ℤ, pos, neg_ℤ, nat_abs, ◌+ℤ◌, ◌-ℤ◌, ◌*ℤ◌, nat_le, nat_lt}
use Rattle.std.specs.Int.{w64, w128}
use Rattle.std.proofs.lemmas.Int.{ints}
use Rattle.std.proofs.lemmas.List.{take_more, drop_more, drop_all}
use Rattle.std.proofs.lemmas.Bool.{ltb-true}
use Rattle.base.proofs.Public.{neg_ℤ-*ℤ}
use Rattle.lin_atoms.specs.Linear.{Linear, sum_at, variable_at, are_ordered, are_short, fits, is_long, is_short}
use Rattle.lin_atoms.specs.Algebra.{negated_terms, plus}

pub both_true : (a b : Bool) → (a && b) ≡ true → (a ≡ true) × (b ≡ true)
both_true true b h = (refl, h)
both_true false b h = absurd (cc)

-- each coefficient has its bound
pub small_at : (ts : List (ℕ × ℤ)) (i : ℕ) (d : ℕ × ℤ) → i < length ts → are_short ts ≡ true → nat_abs (get_or ts i d).1 < 2 ^ 63
small_at [] i d h is = absurd (omega arith)
small_at (t ∷ ts) zero d h is = ltb-true _ _ (both_true (is_short t.1) _ is).0
small_at (t ∷ ts) (suc i) d h is = small_at ts i d (omega arith) (both_true (is_short t.1) _ is).1

pub small-fits : (a : ℤ) → nat_abs a < 2 ^ 63 → FitsSigned w64 a
small-fits a h = omega (arith, ints, h)

-- with the other sign it has room
pub minus-fits : (a : ℤ) → nat_abs a < 2 ^ 63 → FitsSigned w64 (pos 0 -ℤ a)
minus-fits a h = omega (arith, ints, h)

pub minus-is : (a : ℤ) → pos 0 -ℤ a ≡ neg_ℤ a
minus-is a = omega (arith, ints)

pub are_short-negated : (ts : List (ℕ × ℤ)) → are_short (negated_terms ts) ≡ are_short ts
are_short-negated [] = refl
are_short-negated (t ∷ ts) =
    let size : nat_abs (neg_ℤ t.1) ≡ nat_abs t.1 = omega (arith, ints) in
    rw (size, are_short-negated ts) refl

pub are_ordered-negated : (from : ℕ) (ts : List (ℕ × ℤ)) → are_ordered from (negated_terms ts) ≡ are_ordered from ts
are_ordered-negated from [] = refl
are_ordered-negated from (t ∷ ts) =
    let size : nat_abs (neg_ℤ t.1) ≡ nat_abs t.1 = omega (arith, ints) in
    rw (size, are_ordered-negated (t.0 + 1) ts) refl

negated_terms-++ : (ts us : List (ℕ × ℤ)) → negated_terms (ts ++ us) ≡ negated_terms ts ++ negated_terms us
negated_terms-++ [] us = refl
negated_terms-++ (t ∷ ts) us = ap (λ ys. (t.0, neg_ℤ t.1) ∷ ys) (negated_terms-++ ts us)

-- one more term
pub negated_terms-more : (ts : List (ℕ × ℤ)) (i : ℕ) (d : ℕ × ℤ) → i < length ts → negated_terms (take (i + 1) ts) ≡ negated_terms (take i ts) ++ ((get_or ts i d).0, neg_ℤ (get_or ts i d).1) ∷ []
negated_terms-more ts i d h = ap negated_terms (take_more ts i d h) ∙ negated_terms-++ (take i ts) _

pub sum_at-negated : (point : List ℤ) (ts : List (ℕ × ℤ)) → sum_at point (negated_terms ts) ≡ neg_ℤ (sum_at point ts)
sum_at-negated point [] = refl
sum_at-negated point (t ∷ ts) =
    let first = neg_ℤ-*ℤ t.1 (variable_at point t.0) in
    let rest = sum_at-negated point ts in
    omega (arith, ints)

sum_at-drop : (point : List ℤ) (ts : List (ℕ × ℤ)) (i : ℕ) (d : ℕ × ℤ) → i < length ts → sum_at point (drop i ts) ≡ (get_or ts i d).1 *ℤ variable_at point (get_or ts i d).0 +ℤ sum_at point (drop (i + 1) ts)
sum_at-drop point ts i d h = ap (sum_at point) (drop_more ts i d h)

-- one more term is added up
pub sum_at-more : (point : List ℤ) (ts : List (ℕ × ℤ)) (i : ℕ) (d : ℕ × ℤ) (now new whole : ℤ) → i < length ts → now +ℤ sum_at point (drop i ts) ≡ whole → new ≡ now +ℤ (get_or ts i d).1 *ℤ variable_at point (get_or ts i d).0 → new +ℤ sum_at point (drop (i + 1) ts) ≡ whole
sum_at-more point ts i d now new whole h was is = let e = sum_at-drop point ts i d h in omega (arith, ints)

-- no term is left
pub sum_at-end : (point : List ℤ) (ts : List (ℕ × ℤ)) (i : ℕ) (now whole : ℤ) → length ts ≤ i → now +ℤ sum_at point (drop i ts) ≡ whole → now ≡ whole
sum_at-end point ts i now whole h was = let e : sum_at point (drop i ts) ≡ pos 0 = ap (sum_at point) (drop_all i ts h) in omega (arith, ints)

-- terms are not more than the room of their variables
pub length_at : (from : ℕ) (ts : List (ℕ × ℤ)) (i : ℕ) (d : ℕ × ℤ) → i < length ts → are_ordered from ts ≡ true → from + i ≤ (get_or ts i d).0
length_at from [] i d h is = absurd (omega arith)
length_at from (t ∷ ts) zero d h is = let le = (both_true (nat_le from t.0) _ is).0 in grind arith
length_at from (t ∷ ts) (suc i) d h is =
    let parts = both_true (nat_le from t.0) _ is in
    let rest = length_at (t.0 + 1) ts i d (omega arith) (both_true (nat_lt 0 (nat_abs t.1)) _ parts.1).1 in
    let le = parts.0 in
    grind arith

abbrev pub linear_of_parts : List (ℕ × ℤ) → ℤ → Linear
linear_of_parts terms constant = record { terms = terms; constant = constant }

-- a fact of a form, by its terms and its constant
pub of-parts : (P : Linear → Type 0) (terms terms' : List (ℕ × ℤ)) (constant constant' : ℤ) → terms ≡ terms' → constant ≡ constant' → P (record { terms = terms; constant = constant }) → P (record { terms = terms'; constant = constant' })
of-parts P terms terms' constant constant' t k h = subst (λ (n : ℤ). P (record { terms = terms'; constant = n })) k (subst (λ (ts : List (ℕ × ℤ)). P (record { terms = ts; constant = constant })) t h)

-- a constant with a number added
pub plus-fits : (a k r : ℤ) → is_long a ≡ true → FitsSigned w64 k → r ≡ k → FitsSigned w128 (a +ℤ r)
plus-fits a k r long fits same =
    let small : nat_abs a < 2 ^ 64 = ltb-true (nat_abs a) (2 ^ 64) long in
    omega (arith, ints, small, fits.sfits, same)

pub plus-is : (lin : Linear) (terms : List (ℕ × ℤ)) (a k r : ℤ) → r ≡ k → linear_of_parts terms a ≡ lin → linear_of_parts terms (a +ℤ r) ≡ plus lin k
plus-is lin terms a k r same is = ap (λ n. linear_of_parts terms (a +ℤ n)) same ∙ ap (λ (l : Linear). plus l k) is

and-false : (a : Bool) → (a && false) ≡ false
and-false true = refl
and-false false = refl

pub too-long : (lin : Linear) → is_long lin.constant ≡ false → fits lin ≡ false
too-long lin wide = ap (λ b. are_short lin.terms && b) wide ∙ and-false (are_short lin.terms)
