-- The columns outside a basis, and where they stand.
use Rattle.std.proofs.Common.{◌≡◌, ℕ, suc, zero, List, ◌∷◌, refl, ap, ◌∙◌, arith, ◌<◌, ◌≤◌, ◌+◌, true, false, Bool, cond, not, length, get_or, filter, inl, inr, ⊎_elim}
use Rattle.std.specs.Prelude.{ℤ, Option, Some, None, ◌||◌}
use Rattle.std.specs.List.{All, range_with_len}
use Rattle.std.proofs.Math.Nat.{eq-or-lt_of_le}
use Rattle.std.proofs.lemmas.Bool.{eq-eqb, ne_eqb}
use Rattle.std.proofs.lemmas.List.Elements.{All-filter, filter_passes}
use Rattle.std.proofs.lemmas.List.FromFn.{get_or-range_with_len, length-range_with_len}
use Rattle.int_rows.specs.Basis.{MayStand, is_in, outside}
use Rattle.int_rows.specs.Table.{Table, width}
use Rattle.int_rows.specs.Basis.{in_order}
use Rattle.simplex_core.specs.Answer.{basis, is_basic_at, is_outside_at}
use Rattle.simplex_core.specs.Standings.{AreStandings, may_stand}
use Rattle.simplex_core.specs.Run.{columns, is_basic, standing_at, stood}
use Rattle.simplex_core.specs.declared.standing.Standing.{Standing}
use Rattle.simplex_core.specs.declared.standing.Standing.TheVariants.{Basic, AtLower, AtUpper, AtZero}

-- tests that agree in a range keep the same numbers of it
pub filter-same : (p q : ℕ → Bool) (a n : ℕ) → ((c : ℕ) → a ≤ c → c < a + n → p c ≡ q c) → filter p (range_with_len a n) ≡ filter q (range_with_len a n)
filter-same p q a zero h = refl
filter-same p q a (suc n) h =
    let rest = range_with_len (a + 1) n in
    ap (λ b. cond b (a ∷ filter p rest) (filter p rest)) (h a (omega arith) (omega arith))
    ∙ ap (λ xs. cond (q a) (a ∷ xs) xs) (filter-same p q (a + 1) n (λ c low high. h c (omega arith) (omega arith)))

none-step : (a c : ℕ) (rest : List ℕ) (b : Bool) → c < a → is_in rest c ≡ false → is_in (cond b (a ∷ rest) rest) c ≡ false
none-step a c rest true h e = ap (λ t. t || is_in rest c) (ne_eqb a c (λ same. omega arith)) ∙ e
none-step a c rest false h e = e

is_in-none : (p : ℕ → Bool) (a n c : ℕ) → c < a → is_in (filter p (range_with_len a n)) c ≡ false
is_in-none p a zero c h = refl
is_in-none p a (suc n) c h = none-step a c (filter p (range_with_len (a + 1) n)) (p a) h (is_in-none p (a + 1) n c (omega arith))

here-step : (a c : ℕ) (rest : List ℕ) (b : Bool) → a ≡ c → is_in rest c ≡ false → is_in (cond b (a ∷ rest) rest) c ≡ b
here-step a c rest true h e = ap (λ t. t || is_in rest c) (eq-eqb a c h)
here-step a c rest false h e = e

more-step : (a c : ℕ) (rest : List ℕ) (b d : Bool) → a < c → is_in rest c ≡ d → is_in (cond b (a ∷ rest) rest) c ≡ d
more-step a c rest true d h e = ap (λ t. t || is_in rest c) (ne_eqb a c (λ same. omega arith)) ∙ e
more-step a c rest false d h e = e

-- a number of the range is among those that are kept where it passes
pub is_in-some : (p : ℕ → Bool) (a n c : ℕ) → a ≤ c → c < a + n → is_in (filter p (range_with_len a n)) c ≡ p c
is_in-some p a zero c low high = absurd (omega arith)
is_in-some p a (suc n) c low high =
    let rest = filter p (range_with_len (a + 1) n) in
    ⊎_elim (λ same. here-step a c rest (p a) same (is_in-none p (a + 1) n c (omega (arith, same))) ∙ ap p same) (λ less. more-step a c rest (p a) (p c) less (is_in-some p (a + 1) n c (omega (arith, less)) (omega arith))) (eq-or-lt_of_le low)

pub basis-same : (t : Table) (standings : List Standing) → AreStandings t standings → basis (columns t) standings ≡ in_order (width t) t.basic
basis-same t standings are = filter-same (is_basic_at standings) (is_in t.basic) 0 (width t) (λ c low high. are.basic c (omega arith))

pub outside-same : (t : Table) (standings : List Standing) → outside (width t) (basis (columns t) standings) ≡ filter (is_outside_at standings) (columns t)
outside-same t standings =
    filter-same (λ c. not (is_in (basis (columns t) standings) c)) (is_outside_at standings) 0 (width t) (λ c low high. ap not (is_in-some (is_basic_at standings) 0 (width t) c low high))

not-true : (b : Bool) → not b ≡ true → b ≡ false
not-true true h = cc
not-true false h = refl

-- each column outside the basis is there, and isn't basic
pub outside-at : (t : Table) (standings : List Standing) (k d : ℕ) → k < length (filter (is_outside_at standings) (columns t)) → (get_or (filter (is_outside_at standings) (columns t)) k d < width t) × (is_basic (standing_at standings (get_or (filter (is_outside_at standings) (columns t)) k d)) ≡ false)
outside-at t standings k d h =
    let all : All (λ c. c < width t) (columns t) =
    λ i e k. let within : i < width t = omega (arith, k, length-range_with_len 0 (width t)) in omega (arith, get_or-range_with_len 0 (width t) i e within) in (
      All-filter (is_outside_at standings) (λ c. c < width t) (columns t) all k d h,
      not-true _ (filter_passes (is_outside_at standings) (columns t) k d h),
    )

pub stands : (l u : Option ℤ) (s : Standing) → may_stand l u s ≡ true → is_basic s ≡ false → MayStand l u (stood l u s)
stands l u Basic h e = cc
stands None u AtLower h e = cc
stands (Some l) None AtLower h e = refl
stands (Some l) (Some u) AtLower h e = inl refl
stands l None AtUpper h e = cc
stands None (Some u) AtUpper h e = refl
stands (Some l) (Some u) AtUpper h e = inr refl
stands None None AtZero h e = refl
stands None (Some u) AtZero h e = cc
stands (Some l) u AtZero h e = cc
