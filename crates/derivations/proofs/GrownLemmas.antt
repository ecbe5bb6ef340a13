-- What a look-up in parts finds; and parts with one tuple more hold what they held, and that.
use Rattle.std.proofs.Common.{◌≡◌, ℕ, zero, suc, ◌+◌, ◌-◌, ◌<◌, ◌≤◌, List, [], ◌∷◌, ◌++◌, Some, None, length, get_or, take, drop, refl, ap, ap₂, sym, subst, ◌∙◌, arith, inl, inr}
use Rattle.std.specs.Prelude.{ℤ, ◌⊎◌, ◌↔◌}
use Rattle.std.specs.List.{Contains}
use Rattle.std.proofs.lemmas.Bool.{cases_lt, cases_order}
use Rattle.std.proofs.lemmas.List.{length-append, length-drop, length-take-le, get_or-drop, get_or-take, get_or_append_left, get_or_push}
use Rattle.derivations.specs.machinery.Index.{AreGrown, AreSingle, Holds, joined}
use Rattle.derivations.proofs.PartLemmas.{joined_all, joined_has, joined_kept}

some_is : (m n : ℕ) → Some m ≡ Some n → m ≡ n
some_is m n e = cc

pub sought_some : (parts : List (List (List ℤ × ℕ))) (t : List ℤ) (i n : ℕ) → AreSingle parts → i < length parts → Contains (get_or parts i []) (t, n) → (m : ℕ) → (Some n ≡ Some m) ↔ Holds parts t m
sought_some parts t i n single l has m = (λ e. subst (λ k. Holds parts t k) (some_is n m e) (i, l, has), λ h. ap (λ k. Some k) (single t n m (i, l, has) h))

pub sought_none : (parts : List (List (List ℤ × ℕ))) (t : List ℤ) → ((i n : ℕ) → 0 ≤ i → i < length parts → Contains (get_or parts i []) (t, n) → ⊥) → (m : ℕ) → (None ≡ Some m) ↔ Holds parts t m
sought_none parts t none m = (λ e. absurd (cc), λ h. absurd (none h.0 m (omega arith) h.1 h.2))

pub sought_more : (parts : List (List (List ℤ × ℕ))) (t : List ℤ) (left : ℕ) → 0 < left → ((n : ℕ) → Contains (get_or parts (left - 1) []) (t, n) → ⊥) → ((i n : ℕ) → left ≤ i → i < length parts → Contains (get_or parts i []) (t, n) → ⊥)
    → (i n : ℕ) → left - 1 ≤ i → i < length parts → Contains (get_or parts i []) (t, n) → ⊥
sought_more parts t left some here later i n more l has = by (cases_lt i left) where
  by : (i < left) ⊎ (left ≤ i) → ⊥
  by (inl less) = (let same : i ≡ left - 1 = omega (arith, more, less, some) in here n (subst (λ j. Contains (get_or parts j []) (t, n)) same has))
  by (inr past) = later i n past l has

module _ (old : List (List (List ℤ × ℕ))) (tuple : List ℤ) (number : ℕ) (single : AreSingle old) (fresh : (n : ℕ) → Holds old tuple n → ⊥) where
  -- an old tuple with its number, or the new one
  abbrev pub IsEither : List ℤ → ℕ → Type 0
  IsEither t n = Holds old t n ⊎ ((t ≡ tuple) × (n ≡ number))

  either_single : (t : List ℤ) (m n : ℕ) → IsEither t m → IsEither t n → m ≡ n
  either_single t m n (inl a) (inl b) = single t m n a b
  either_single t m n (inl a) (inr b) = absurd (fresh m (subst (λ s. Holds old s m) b.0 a))
  either_single t m n (inr a) (inl b) = absurd (fresh n (subst (λ s. Holds old s n) a.0 b))
  either_single t m n (inr a) (inr b) = a.1 ∙ sym b.1

  abbrev first : List (List ℤ × ℕ)
  first = (tuple, number) ∷ []

  first_all : (t : List ℤ) (n : ℕ) → Contains first (t, n) → IsEither t n
  first_all t n (zero, l, is) = inr (sym (ap (λ x. x.0) is), sym (ap (λ x. x.1) is))
  first_all t n (suc k, l, is) = absurd (omega arith)

  dropped_all : (k i : ℕ) → i < length (drop k old) → (t : List ℤ) (n : ℕ) → Contains (get_or (drop k old) i []) (t, n) → IsEither t n
  dropped_all k i l t n has =
      let long = length-drop k old in
      inl (k + i, omega (arith, long, l), subst (λ es. Contains es (t, n)) (get_or-drop k old i []) has)

  pub grown_exact : (new : List (List (List ℤ × ℕ))) → AreGrown old tuple number new → (t : List ℤ) (n : ℕ) → Holds new t n ↔ IsEither t n
  grown_exact new (k, low, is) t n = (λ h. front (subst (λ ps. Holds ps t n) is h), λ e. subst (λ ps. Holds ps t n) (sym is) (back e)) where
    last : List (List ℤ × ℕ)
    last = joined (drop k old) tuple number

    whole : List (List (List ℤ × ℕ))
    whole = take k old ++ last ∷ []

    long-take : length (take k old) ≡ k
    long-take = length-take-le k old low

    long : length whole ≡ k + 1
    long = length-append (take k old) (last ∷ []) ∙ ap (λ j. j + 1) long-take

    early : (i : ℕ) → i < k → get_or whole i [] ≡ get_or old i []
    early i l = get_or_append_left (take k old) (last ∷ []) [] i (omega (arith, long-take, l)) ∙ get_or-take k old i [] l

    late : (i : ℕ) → i ≡ k → get_or whole i [] ≡ last
    late i e = get_or_push (take k old) last [] i (long-take ∙ sym e)

    front : Holds whole t n → IsEither t n
    front (i, l, has) = by (cases_order i k) where
      by : (i ≡ k) ⊎ ((i < k) ⊎ (k < i)) → IsEither t n
      by (inl e) = joined_all IsEither either_single first (drop k old) first_all (dropped_all k) t n (subst (λ es. Contains es (t, n)) (late i e) has)
      by (inr (inl less)) = inl (i, omega (arith, less, low), subst (λ es. Contains es (t, n)) (early i less) has)
      by (inr (inr more)) = absurd (omega (arith, long, l, more))

    back : IsEither t n → Holds whole t n
    back (inr e) = (k, omega (arith, long), subst (λ es. Contains es (t, n)) (sym (late k refl)) (joined_kept IsEither either_single first (drop k old) first_all (dropped_all k) (t, n) (0, omega arith, ap₂ (λ (a : List ℤ) (b : ℕ). (a, b)) (sym e.0) (sym e.1))))
    back (inl (i, l, has)) = by (cases_lt i k) where
      by : (i < k) ⊎ (k ≤ i) → Holds whole t n
      by (inl less) = (i, omega (arith, long, less), subst (λ es. Contains es (t, n)) (sym (early i less)) has)
      by (inr more) =
          let dropped = length-drop k old in
          let at : k + (i - k) ≡ i = omega (arith, more) in
          (k, omega (arith, long), subst (λ es. Contains es (t, n)) (sym (late k refl)) (joined_has IsEither either_single first (drop k old) first_all (dropped_all k) (t, n) (i - k) (omega (arith, dropped, l, more)) (subst (λ es. Contains es (t, n)) (sym (get_or-drop k old (i - k) [] ∙ ap (λ j. get_or old j []) at)) has)))
