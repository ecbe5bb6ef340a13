-- Loops over the numbers from 0 on: the first that passes a test, those that pass, and what is made of each.
use Rattle.std.proofs.Common.{◌≡◌, ℕ, suc, zero, List, [], ◌∷◌, ◌++◌, refl, ap, sym, ◌∙◌, arith, ◌<◌, ◌≤◌, ◌+◌, ◌-◌, true, false, Bool, cond, length, get_or, map, find, filter, flat_map, position, nat_lt, Option, Some, None, ⊎_elim}
use Rattle.std.specs.Prelude.{not}
use Rattle.std.specs.List.{position_or_len, range_with_len}
use Rattle.std.proofs.lemmas.Bool.{cond-true, cond-false, ltb-false, ltb-true, not-false, not-true}
use Rattle.std.proofs.lemmas.List.Sums.{prefix_len_passes, prefix_len_stops}
use Rattle.std.proofs.lemmas.List.{append-nil, map-append}
use Rattle.std.proofs.lemmas.List.Elements.{filter-append}
use Rattle.std.proofs.lemmas.List.FromFn.{map-range_with_len_more}
use Rattle.std.proofs.lemmas.Grind.{flat_map-append}
use Rattle.std.proofs.Math.Nat.{eq-or-lt_of_le}
use Rattle.int_rows.proofs.Public.{range-more}

counted-more : (c : ℕ) → range_with_len 0 (c + 1) ≡ range_with_len 0 c ++ c ∷ []
counted-more c = let e : 0 + c ≡ c = omega arith in range-more 0 c ∙ ap (λ k. range_with_len 0 c ++ k ∷ []) e

-- the first number from c on and below n that passes
abbrev pub sought : (ℕ → Bool) → ℕ → ℕ → Option ℕ
sought test c n = find test (range_with_len c (n - c))

step : (c n : ℕ) → c < n → range_with_len c (n - c) ≡ c ∷ range_with_len (c + 1) (n - (c + 1))
step c n h = let e : n - c ≡ suc (n - (c + 1)) = omega arith in ap (range_with_len c) e

ended : (c n : ℕ) → n ≤ c → range_with_len c (n - c) ≡ []
ended c n h = let e : n - c ≡ 0 = omega arith in ap (range_with_len c) e

pub sought-all : (test : ℕ → Bool) (n : ℕ) → sought test 0 n ≡ find test (range_with_len 0 n)
sought-all test n = let e : n - 0 ≡ n = omega arith in ap (λ k. find test (range_with_len 0 k)) e

pub sought-none : (test : ℕ → Bool) (c n : ℕ) → n ≤ c → sought test c n ≡ None
sought-none test c n h = ap (find test) (ended c n h)

pub sought-here : (test : ℕ → Bool) (c n : ℕ) → c < n → test c ≡ true → sought test c n ≡ Some c
sought-here test c n h t = ap (find test) (step c n h) ∙ cond-true (test c) (Some c) (sought test (c + 1) n) t

pub sought-more : (test : ℕ → Bool) (c n : ℕ) → c < n → test c ≡ false → sought test c n ≡ sought test (c + 1) n
sought-more test c n h t = ap (find test) (step c n h) ∙ cond-false (test c) (Some c) (sought test (c + 1) n) t

-- what is found is in the range and passes; what isn't found passes nowhere
abbrev Found : (ℕ → Bool) → ℕ → ℕ → ℕ → Type 0
Found test a n c = (a ≤ c) × (c < a + n) × (test c ≡ true)

within-cases : (test : ℕ → Bool) (a n c : ℕ) (b : Bool) → test a ≡ b → (find test (range_with_len (a + 1) n) ≡ Some c → Found test (a + 1) n c) → cond b (Some a) (find test (range_with_len (a + 1) n)) ≡ Some c → Found test a (suc n) c
within-cases test a n c true t rest e =
    let same : a ≡ c = cc in
    (omega (arith, same), omega (arith, same), ap test (sym same) ∙ t)
within-cases test a n c false t rest e =
    let found = rest e in
    (omega (arith, found.0), omega (arith, found.1), found.2)

pub find-within : (test : ℕ → Bool) (a n c : ℕ) → find test (range_with_len a n) ≡ Some c → (a ≤ c) × (c < a + n) × (test c ≡ true)
find-within test a zero c e = cc
find-within test a (suc n) c e = within-cases test a n c (test a) refl (find-within test (a + 1) n c) e

abbrev Nowhere : (ℕ → Bool) → ℕ → ℕ → Type 0
Nowhere test a n = (c : ℕ) → a ≤ c → c < a + n → test c ≡ false

nowhere-cases : (test : ℕ → Bool) (a n : ℕ) (b : Bool) → test a ≡ b → (find test (range_with_len (a + 1) n) ≡ None → Nowhere test (a + 1) n) → cond b (Some a) (find test (range_with_len (a + 1) n)) ≡ None → Nowhere test a (suc n)
nowhere-cases test a n true t rest e c low high = cc
nowhere-cases test a n false t rest e c low high = ⊎_elim (λ same. ap test (sym same) ∙ t) (λ more. rest e c (omega (arith, more)) (omega arith)) (eq-or-lt_of_le low)

pub find-nowhere : (test : ℕ → Bool) (a n : ℕ) → find test (range_with_len a n) ≡ None → (c : ℕ) → a ≤ c → c < a + n → test c ≡ false
find-nowhere test a zero e c low high = absurd (omega arith)
find-nowhere test a (suc n) e c low high = nowhere-cases test a n (test a) refl (find-nowhere test (a + 1) n) e c low high

-- those that pass, one more
pub filter-more : (p : ℕ → Bool) (c : ℕ) → filter p (range_with_len 0 (c + 1)) ≡ filter p (range_with_len 0 c) ++ cond (p c) (c ∷ []) []
filter-more p c = ap (filter p) (counted-more c) ∙ filter-append p (range_with_len 0 c) (c ∷ [])

-- what is made of each, one more
pub made-more : {X : Type 0} (f : ℕ → X) (c : ℕ) (xs : List X) (x : X) → xs ≡ map f (range_with_len 0 c) → x ≡ f c → xs ++ x ∷ [] ≡ map f (range_with_len 0 (c + 1))
made-more f c xs x e h = ap (λ ys. ys ++ x ∷ []) e ∙ ap (λ y. map f (range_with_len 0 c) ++ y ∷ []) h ∙ sym (map-range_with_len_more f 0 c c (omega arith))

pub flat-more : {Y : Type 0} (f : ℕ → List Y) (c : ℕ) (xs : List Y) → xs ≡ flat_map f (range_with_len 0 c) → xs ++ f c ≡ flat_map f (range_with_len 0 (c + 1))
flat-more f c xs e = ap (λ ys. ys ++ f c) e ∙ sym (ap (flat_map f) (counted-more c) ∙ flat_map-append f (range_with_len 0 c) (c ∷ []) ∙ ap (λ ys. flat_map f (range_with_len 0 c) ++ ys) (append-nil (f c)))

mapped : {X : Type 0} (f : ℕ → X) (c : ℕ) (b : Bool) → map f (cond b (c ∷ []) []) ≡ cond b (f c ∷ []) []
mapped f c true = refl
mapped f c false = refl

-- what is made of those that pass, one more
pub picked-more : {X : Type 0} (f : ℕ → X) (p : ℕ → Bool) (c : ℕ) (xs ys : List X) → xs ≡ map f (filter p (range_with_len 0 c)) → ys ≡ xs ++ cond (p c) (f c ∷ []) [] → ys ≡ map f (filter p (range_with_len 0 (c + 1)))
picked-more f p c xs ys e h =
    h ∙ ap (λ zs. zs ++ cond (p c) (f c ∷ []) []) e
    ∙ ap (λ zs. map f (filter p (range_with_len 0 c)) ++ zs) (sym (mapped f c (p c)))
    ∙ sym (map-append f (filter p (range_with_len 0 c)) (cond (p c) (c ∷ []) []))
    ∙ sym (ap (map f) (filter-more p c))

pub kept : (p : ℕ → Bool) (c : ℕ) (xs ys : List ℕ) → xs ≡ filter p (range_with_len 0 c) → ys ≡ xs ++ cond (p c) (c ∷ []) [] → ys ≡ filter p (range_with_len 0 (c + 1))
kept p c xs ys e h = h ∙ ap (λ zs. zs ++ cond (p c) (c ∷ []) []) e ∙ sym (filter-more p c)

position-cases : (i n : ℕ) (b : Bool) → nat_lt i n ≡ b → cond b (Some i) None ≡ None → n ≤ i
position-cases i n true t e = cc
position-cases i n false t e = ltb-false i n t

-- where no place is found, no item passes
pub position-none : {X : Type 0} (p : X → Bool) (xs : List X) (i : ℕ) (d : X) → position p xs ≡ None → i < length xs → p (get_or xs i d) ≡ false
position-none p xs i d e h =
    let last = position-cases (position_or_len p xs) (length xs) (nat_lt (position_or_len p xs) (length xs)) refl e in
    not-true (p (get_or xs i d)) (prefix_len_passes (λ x. not (p x)) xs i d (omega (arith, last, h)))

found-cases : (i j n : ℕ) (b : Bool) → nat_lt i n ≡ b → cond b (Some i) None ≡ Some j → (i ≡ j) × (i < n)
found-cases i j n true t e = (cc, ltb-true i n t)
found-cases i j n false t e = absurd (cc)

-- the item at the place that is found passes
pub position-some : {X : Type 0} (p : X → Bool) (xs : List X) (i : ℕ) (d : X) → position p xs ≡ Some i → (i < length xs) × (p (get_or xs i d) ≡ true)
position-some p xs i d e =
    let found = found-cases (position_or_len p xs) i (length xs) (nat_lt (position_or_len p xs) (length xs)) refl e in
    let stops = prefix_len_stops (λ x. not (p x)) xs d found.1 in
    (omega (arith, found.0, found.1), ap (λ k. p (get_or xs k d)) (sym found.0) ∙ not-false (p (get_or xs (position_or_len p xs) d)) stops)

least-cases : (test : ℕ → Bool) (a n c : ℕ) (b : Bool) → test a ≡ b → (find test (range_with_len (a + 1) n) ≡ Some c → (d : ℕ) → a + 1 ≤ d → d < c → test d ≡ false) → cond b (Some a) (find test (range_with_len (a + 1) n)) ≡ Some c → (d : ℕ) → a ≤ d → d < c → test d ≡ false
least-cases test a n c true t rest e d low high = let same : a ≡ c = cc in absurd (omega (arith, same, low, high))
least-cases test a n c false t rest e d low high = ⊎_elim (λ same. ap test (sym same) ∙ t) (λ more. rest e d (omega (arith, more)) high) (eq-or-lt_of_le low)

-- no number before the one that is found passes
pub find-least : (test : ℕ → Bool) (a n c : ℕ) → find test (range_with_len a n) ≡ Some c → (d : ℕ) → a ≤ d → d < c → test d ≡ false
find-least test a zero c e = λ d low high. absurd (cc)
find-least test a (suc n) c e = least-cases test a n c (test a) refl (find-least test (a + 1) n c) e

-- the greatest number below n that passes
pub record Greatest (p : ℕ → Bool) (n : ℕ) : Type 0 where
  pub number : ℕ
  pub below : number < n
  pub passes : p number ≡ true
  pub last : (d : ℕ) → number < d → d < n → p d ≡ false

greatest-cases : (p : ℕ → Bool) (n c : ℕ) (b : Bool) → p n ≡ b → c < suc n → p c ≡ true → (c < n → Greatest p n) → Greatest p (suc n)
greatest-cases p n c true e h t rest = record { number = n; below = omega arith; passes = e; last = λ d low high. absurd (omega (arith, low, high)) }
greatest-cases p n c false e h t rest =
    let other : c ≡ n → ⊥ = λ same. let bad : true ≡ false = sym t ∙ ap p same ∙ e in absurd (cc) in
    let found = rest (omega (arith, h, other)) in
    record { number = found.number; below = omega (arith, found.below); passes = found.passes; last = λ d low high. let le : d ≤ n = omega (arith, high) in ⊎_elim (λ same. ap p same ∙ e) (λ less. found.last d low less) (eq-or-lt_of_le le) }

pub greatest : (p : ℕ → Bool) (n c : ℕ) → c < n → p c ≡ true → Greatest p n
greatest p zero c h t = absurd (omega arith)
greatest p (suc n) c h t = greatest-cases p n c (p n) refl h t (λ less. greatest p n c less t)
