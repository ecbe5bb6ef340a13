-- The greatest common divisor of a row's entries, by what divides them.
use Rattle.std.proofs.Common.{◌≡◌, ℕ, suc, zero, List, [], ◌∷◌, refl, sym, arith, ◌<◌, ◌≤◌, true, false, Bool, cond, ◌==◌, ◌%◌, length, get_or, drop, map, ◌+◌, ◌*◌, ap, ◌∙◌, ◌^◌, subst, ◌⊎◌, inl, inr, ⊎_elim}
use Rattle.std.specs.Int.{◌∣◌}
use Rattle.std.specs.Prelude.{ℤ, pos, ◌*ℤ◌, nat_abs, nat_le, nat_lt}
use Rattle.std.specs.Int.{IsGcd, int_div_euclid}
use Rattle.std.proofs.lemmas.Int.{ints, unsigned_abs-mul}
use Rattle.lin_atoms.proofs.Public.{both_true, exact_quotient}
use Rattle.int_rows.specs.Pivot.{reduced}
use Rattle.std.proofs.Math.Nat.{eq-zero_of_zero-dvd, one-dvd, mul-dvd-mul_right, mul-le-mul_right, zero-mul}
use Rattle.std.proofs.lemmas.Nat.Gcd.{dvd_refl, dvd_trans, le_of_dvd, dvd_of_mod-eq-zero, mod-eq-zero_of_dvd}
use Rattle.std.proofs.lemmas.Bool.{eqb-true, ltb-true}
use Rattle.std.proofs.lemmas.List.{drop_more, drop_all}
use Rattle.lin_atoms.specs.Linear.{Linear, are_ordered, are_short, is_linear, is_short}
use Rattle.int_rows.specs.Ready.{lin_content}
use Rattle.int_rows.specs.Rows.{content, divides_all, greatest_divisor, greatest_magnitude}

abbrev pub Divides : ℕ → List ℤ → Type 0
Divides d [] = Unit {0}
Divides d (a ∷ row) = (d ∣ nat_abs a) × Divides d row

-- g is what every common divisor divides
pub record IsContent (g : ℕ) (row : List ℤ) : Type 0 where
  pub common : Divides g row
  pub greatest : (d : ℕ) → Divides d row → d ∣ g

divides-tested : (d : ℕ) (row : List ℤ) → divides_all d row ≡ true → Divides d row
divides-tested d [] h = tt
divides-tested d (a ∷ row) h =
    let both = both_true (nat_abs a % d == 0) _ h in
    (dvd_of_mod-eq-zero d (eqb-true _ _ both.0), divides-tested d row both.1)

eq-test : (n : ℕ) → n ≡ 0 → (n == 0) ≡ true
eq-test n h = grind arith

tested-divides : (d : ℕ) (row : List ℤ) → Divides d row → divides_all d row ≡ true
tested-divides d [] h = refl
tested-divides d (a ∷ row) h =
    rw (eq-test (nat_abs a % d) (mod-eq-zero_of_dvd d h.0)) (tested-divides d row h.1)

zeros : (row : List ℤ) → greatest_magnitude row ≡ 0 → Divides 0 row
zeros [] h = tt
zeros (a ∷ row) h =
    let none : nat_abs a ≡ 0 = omega arith in
    (subst (λ n. 0 ∣ n) (sym none) (dvd_refl 0), zeros row (omega arith))

magnitude-zero : (a : ℕ) (g : ℕ) → g ∣ a → (a ≡ 0) ⊎ (g ≤ a)
magnitude-zero zero g h = inl refl
magnitude-zero (suc a) g h = inr (le_of_dvd (omega arith) h)

bounded : (g : ℕ) (row : List ℤ) → Divides g row → (greatest_magnitude row ≡ 0) ⊎ (g ≤ greatest_magnitude row)
bounded g [] h = inl refl
bounded g (a ∷ row) h =
    ⊎_elim (λ none. ⊎_elim (λ rest. inl (omega arith)) (λ le. inr (omega arith)) (bounded g row h.1)) (λ le. inr (omega arith)) (magnitude-zero (nat_abs a) g h.0)

not-both : (b : Bool) → b ≡ true → b ≡ false → ⊥
not-both true t f = cc
not-both false t f = cc

below : (n g : ℕ) (row : List ℤ) → divides_all (suc n) row ≡ false → Divides g row → g ≤ suc n → g ≤ n
below n g row test common le =
    let other : g ≡ suc n → ⊥ = λ e. not-both (divides_all (suc n) row) (tested-divides (suc n) row (subst (λ k. Divides k row) e common)) test in
    omega arith

found-step : (n g : ℕ) (row : List ℤ) (b : Bool) → divides_all (suc n) row ≡ b → IsContent g row → 0 < g → g ≤ suc n → (g ≤ n → greatest_divisor n row ≡ g) → cond b (suc n) (greatest_divisor n row) ≡ g
found-step n g row true test is some le rest =
    let most : suc n ≤ g = le_of_dvd some (is.greatest (suc n) (divides-tested (suc n) row test)) in
    omega arith
found-step n g row false test is some le rest = rest (below n g row test is.common le)

found : (n g : ℕ) (row : List ℤ) → IsContent g row → 0 < g → g ≤ n → greatest_divisor n row ≡ g
unfolding greatest_divisor
found zero g row is some le = absurd (omega arith)
found (suc n) g row is some le = found-step n g row (divides_all (suc n) row) refl is some le (λ less. found n g row is some less)

none-found : (row : List ℤ) (n : ℕ) → n ≡ 0 → greatest_divisor n row ≡ 0
unfolding greatest_divisor
none-found row zero e = refl
none-found row (suc n) e = absurd (omega arith)

only-zeros : (row : List ℤ) → Divides 0 row → greatest_magnitude row ≡ 0
only-zeros [] h = refl
only-zeros (a ∷ row) h =
    let none : nat_abs a ≡ 0 = eq-zero_of_zero-dvd h.0 in
    let rest = only-zeros row h.1 in
    omega arith

content-some : (g : ℕ) (row : List ℤ) → IsContent g row → 0 < g → content row ≡ g
unfolding content
content-some g row is some = found (greatest_magnitude row) g row is some (
    ⊎_elim (λ none. let zero_divides = eq-zero_of_zero-dvd (is.greatest 0 (zeros row none)) in absurd (omega arith)) (λ le. le) (bounded g row is.common))

-- the content is what the common divisors of the row divide
pub content-is : (g : ℕ) (row : List ℤ) → IsContent g row → content row ≡ g
unfolding content
content-is zero row is = none-found row (greatest_magnitude row) (only-zeros row is.common)
content-is (suc g) row is = content-some (suc g) row is (omega arith)

abbrev pub Same : Type 0 → Type 0 → Type 0
Same P Q = (P → Q) × (Q → P)

-- the common divisors so far and of the rest are those of the row: one entry more
pub common-more : (row : List ℤ) (i : ℕ) (x : ℤ) (g h : ℕ) → i < length row → ((d : ℕ) → Same ((d ∣ g) × Divides d (drop i row)) (Divides d row)) → IsGcd g (nat_abs (get_or row i x)) h
    → (d : ℕ) → Same ((d ∣ h) × Divides d (drop (i + 1) row)) (Divides d row)
common-more row i x g h within was is d =
    let step = drop_more row i x within in (
      λ both. (was d).0 (dvd_trans d both.0 is.0, subst (λ rest. Divides d rest) (sym step) (dvd_trans d both.0 is.1, both.1)),
      λ all.
          let before = (was d).1 all in
          let here = subst (λ rest. Divides d rest) step before.1 in
          (is.2 d before.0 here.0, here.1),
    )

at-end : (row : List ℤ) (i d : ℕ) → length row ≤ i → Divides d (drop i row)
at-end row i d ended = subst (λ rest. Divides d rest) (sym (drop_all i row ended)) tt

pub common-end : (row : List ℤ) (i g : ℕ) → length row ≤ i → ((d : ℕ) → Same ((d ∣ g) × Divides d (drop i row)) (Divides d row)) → content row ≡ g
common-end row i g ended was = content-is g row (record { common = (was g).0 (dvd_refl g, at-end row i g ended); greatest = λ d all. ((was d).1 all).0 })

pub by-one : (row : List ℤ) → Divides 1 row
by-one [] = tt
by-one (a ∷ row) = (one-dvd (nat_abs a), by-one row)

pub common-one : (row : List ℤ) (i g : ℕ) → g ≡ 1 → ((d : ℕ) → Same ((d ∣ g) × Divides d (drop i row)) (Divides d row)) → content row ≡ 1
common-one row i g one was = content-is 1 row (record { common = by-one row; greatest = λ d all. subst (λ k. d ∣ k) one ((was d).1 all).0 })

most-step : (n g : ℕ) (b : Bool) → g ≤ n → cond b (suc n) g ≤ suc n
most-step n g true h = omega arith
most-step n g false h = omega arith

some-step : (n g : ℕ) (b : Bool) → 0 < g → 0 < cond b (suc n) g
some-step n g true h = omega arith
some-step n g false h = h

most-found : (n : ℕ) (row : List ℤ) → greatest_divisor n row ≤ n
unfolding greatest_divisor
most-found zero row = omega arith
most-found (suc n) row = most-step n (greatest_divisor n row) (divides_all (suc n) row) (most-found n row)

some-found : (n : ℕ) (row : List ℤ) → 0 < n → 0 < greatest_divisor n row
unfolding greatest_divisor
some-found zero row h = absurd (omega arith)
some-found (suc zero) row h = rw (tested-divides 1 row (by-one row)) (omega arith)
some-found (suc (suc n)) row h = some-step (suc n) (greatest_divisor (suc n) row) (divides_all (suc (suc n)) row) (some-found (suc n) row (omega arith))

magnitude-small : (ts : List (ℕ × ℤ)) → are_short ts ≡ true → greatest_magnitude (map (λ t. t.1) ts) < 2 ^ 63
magnitude-small [] h = omega arith
magnitude-small (t ∷ ts) h =
    let both = both_true (is_short t.1) _ h in
    let first : nat_abs t.1 < 2 ^ 63 = ltb-true _ _ both.0 in
    let rest = magnitude-small ts both.1 in
    omega arith

magnitude-some : (ts : List (ℕ × ℤ)) → 0 < length ts → are_ordered 0 ts ≡ true → 0 < greatest_magnitude (map (λ t. t.1) ts)
magnitude-some [] some h = absurd (omega arith)
magnitude-some (t ∷ ts) some h =
    let rest = both_true (nat_le 0 t.0) _ h in
    let first : 0 < nat_abs t.1 = ltb-true _ _ (both_true (nat_lt 0 (nat_abs t.1)) _ rest.1).0 in
    omega arith

-- the content of coefficients is positive and has room
pub coefficients-content : (lin : Linear) → 0 < length lin.terms → is_linear lin ≡ true → (0 < lin_content lin) × (lin_content lin < 2 ^ 63)
unfolding content
coefficients-content lin some h =
    let both = both_true (are_ordered 0 lin.terms) _ h in
    let small = magnitude-small lin.terms (both_true (are_short lin.terms) _ both.1).0 in
    let positive = magnitude-some lin.terms some both.0 in
    let row = map (λ t. t.1) lin.terms in
    (some-found (greatest_magnitude row) row positive, omega (arith, most-found (greatest_magnitude row) row))

divides-step : (n g : ℕ) (row : List ℤ) (b : Bool) → divides_all (suc n) row ≡ b → Divides g row → Divides (cond b (suc n) g) row
divides-step n g row true test h = divides-tested (suc n) row test
divides-step n g row false test h = h

found-divides : (n : ℕ) (row : List ℤ) → 0 < n → Divides (greatest_divisor n row) row
unfolding greatest_divisor
found-divides zero row h = absurd (omega arith)
found-divides (suc zero) row h = rw (tested-divides 1 row (by-one row)) (by-one row)
found-divides (suc (suc n)) row h = divides-step (suc n) (greatest_divisor (suc n) row) row (divides_all (suc (suc n)) row) refl (found-divides (suc n) row (omega arith))

-- the content of coefficients divides each
pub coefficients-divided : (lin : Linear) → 0 < length lin.terms → are_ordered 0 lin.terms ≡ true → (0 < lin_content lin) × Divides (lin_content lin) (map (λ t. t.1) lin.terms)
unfolding content
coefficients-divided lin some h =
    let row = map (λ t. t.1) lin.terms in
    let positive = magnitude-some lin.terms some h in
    (some-found (greatest_magnitude row) row positive, found-divides (greatest_magnitude row) row positive)

gcd-of-none : (b g n : ℕ) → IsGcd 0 b g → b < n → g < n
gcd-of-none zero g n is h = let none = eq-zero_of_zero-dvd (is.2 0 (dvd_refl 0) (dvd_refl 0)) in omega arith
gcd-of-none (suc b) g n is h = let le : g ≤ suc b = le_of_dvd (omega arith) is.1 in omega arith

pub gcd-below : (a b g n : ℕ) → IsGcd a b g → a < n → b < n → g < n
gcd-below zero b g n is first second = gcd-of-none b g n is second
gcd-below (suc a) b g n is first second = let le : g ≤ suc a = le_of_dvd (omega arith) is.0 in omega arith

most-step-divisor : (n m g : ℕ) (row : List ℤ) (b : Bool) → divides_all (suc m) row ≡ b → Divides n row → n ≤ suc m → (n ≤ m → n ≤ g) → n ≤ cond b (suc m) g
most-step-divisor n m g row true test h le rest = le
most-step-divisor n m g row false test h le rest = rest (below m n row test h le)

most-divisor : (n m : ℕ) (row : List ℤ) → Divides n row → n ≤ m → n ≤ greatest_divisor m row
unfolding greatest_divisor
most-divisor n zero row h le = le
most-divisor n (suc m) row h le = most-step-divisor n m (greatest_divisor m row) row (divides_all (suc m) row) refl h le (λ less. most-divisor n m row h less)

none-step : (row : List ℤ) (n : ℕ) → n ≡ 0 → 0 < greatest_divisor n row → ⊥
none-step row n e some = let none = none-found row n e in absurd (omega arith)

-- no common divisor is greater than the content
pub content-most : (n : ℕ) (row : List ℤ) → Divides n row → 0 < content row → n ≤ content row
unfolding content
content-most n row h some = ⊎_elim (λ none. absurd (none-step row (greatest_magnitude row) none some)) (λ le. most-divisor n (greatest_magnitude row) row h le) (bounded n row h)

some-cases : (row : List ℤ) (n : ℕ) → 0 < greatest_divisor n row → 0 < n
some-cases row zero some = absurd (none-step row zero refl some)
some-cases row (suc n) some = omega arith

magnitude-at : (row : List ℤ) (i : ℕ) → i < length row → 0 < nat_abs (get_or row i (pos 0)) → 0 < greatest_magnitude row
magnitude-at [] i h some = absurd (omega arith)
magnitude-at (a ∷ row) zero h some = omega arith
magnitude-at (a ∷ row) (suc i) h some = let rest = magnitude-at row i (omega arith) some in omega arith

magnitude-from : (row : List ℤ) → 0 < content row → 0 < greatest_magnitude row
unfolding content
magnitude-from row some = some-cases row (greatest_magnitude row) some

-- the content divides each entry
pub content-divides : (row : List ℤ) → 0 < content row → Divides (content row) row
unfolding content
content-divides row some = found-divides (greatest_magnitude row) row (magnitude-from row some)

-- a row with an entry that isn't 0 has a content
pub content-positive : (row : List ℤ) (i : ℕ) → i < length row → 0 < nat_abs (get_or row i (pos 0)) → 0 < content row
unfolding content
content-positive row i h some = some-found (greatest_magnitude row) row (magnitude-at row i h some)

-- an entry that is divided, times the divisor
whole-entry : (g : ℕ) (a : ℤ) → 0 < g → g ∣ nat_abs a → int_div_euclid a (pos g) *ℤ pos g ≡ a
whole-entry g a some h = exact_quotient a (pos g) (omega (arith, ints)) h

-- what divides the divided row, times the divisor, divides the row
reduced-divides : (g d : ℕ) (row : List ℤ) → 0 < g → Divides g row → Divides d (reduced (pos g) row) → Divides (d * g) row
reduced-divides g d [] some h k = tt
reduced-divides g d (a ∷ row) some h k =
    let size : nat_abs (int_div_euclid a (pos g)) * g ≡ nat_abs a = sym (unsigned_abs-mul (int_div_euclid a (pos g)) (pos g)) ∙ ap nat_abs (whole-entry g a some h.0) in
    (subst (λ n. (d * g) ∣ n) size (mul-dvd-mul_right d k.0 g), reduced-divides g d row some h.1 k.1)

reduced-zeros : (g : ℕ) (row : List ℤ) → 0 < g → Divides g row → Divides 0 (reduced (pos g) row) → Divides 0 row
reduced-zeros g row some h k = subst (λ n. Divides n row) (zero-mul g) (reduced-divides g 0 row some h k)

too-many : (d g : ℕ) → 0 < g → suc (suc d) * g ≤ g → ⊥
too-many d g some le = let more : 2 * g ≤ suc (suc d) * g = mul-le-mul_right g (omega arith) in omega arith

divides-one : (d g : ℕ) → 0 < g → d * g ≤ g → (d ≡ 0 → ⊥) → d ∣ 1
divides-one zero g some le h = absurd (h refl)
divides-one (suc zero) g some le h = dvd_refl 1
divides-one (suc (suc d)) g some le h = absurd (too-many d g some le)

zeros-none : (row : List ℤ) → 0 < content row → Divides 0 row → ⊥
zeros-none row some h = let positive = magnitude-from row some in let none = only-zeros row h in absurd (omega arith)

-- the row divided by its content is primitive
pub reduced-primitive : (row : List ℤ) → 0 < content row → content (reduced (pos (content row)) row) ≡ 1
reduced-primitive row some =
    content-is 1 (reduced (pos (content row)) row) (record {
      common = by-one (reduced (pos (content row)) row);
      greatest = λ d h.
          let product = reduced-divides (content row) d row some (content-divides row some) h in
          let le = content-most (d * content row) row product some in
          divides-one d (content row) some le (λ none. zeros-none row some (reduced-zeros (content row) row some (content-divides row some) (subst (λ k. Divides k (reduced (pos (content row)) row)) none h)));
    })

-- what divides a row divides its entries
pub divides-at : (d : ℕ) (row : List ℤ) (i : ℕ) → i < length row → Divides d row → d ∣ nat_abs (get_or row i (pos 0))
divides-at d [] i h all = absurd (omega arith)
divides-at d (a ∷ row) zero h all = all.0
divides-at d (a ∷ row) (suc i) h all = divides-at d row i (omega arith) all.1
