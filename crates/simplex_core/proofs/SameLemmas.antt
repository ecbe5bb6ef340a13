-- Moments with the same basis and the same values outside it have the same standings.
use Rattle.std.proofs.Common.{◌≡◌, ℕ, suc, zero, List, ◌∷◌, refl, ap, sym, ◌∙◌, arith, ◌<◌, ◌≤◌, ◌+◌, true, false, Bool, cond, length, map, filter, Option, Some, None, ◌&&◌, ⊎_elim}
use Rattle.std.specs.Prelude.{ℤ, not, is_some}
use Rattle.std.specs.List.{range_with_len}
use Rattle.std.specs.Ordering.{int_eq}
use Rattle.std.proofs.Math.Nat.{eq-or-lt_of_le}
use Rattle.std.proofs.lemmas.Int.{ints}
use Rattle.std.proofs.lemmas.List.{ext_get_or}
use Rattle.int_rows.specs.Basis.{bound}
use Rattle.int_rows.specs.Table.{Table, width}
use Rattle.simplex_core.specs.Answer.{AreSame, basis, is_basic_at, is_outside_at, outer}
use Rattle.simplex_core.specs.Standings.{are_equal, may_stand}
use Rattle.simplex_core.specs.Run.{Moment, columns, is_basic, standing_at, stood}
use Rattle.simplex_core.specs.declared.standing.Standing.{Standing}
use Rattle.simplex_core.specs.declared.standing.Standing.TheVariants.{Basic, AtLower, AtUpper, AtZero}
use Rattle.simplex_core.proofs.GoodLemmas.{IsGood}

head-cases : (q : ℕ → Bool) (from n a : ℕ) (ys : List ℕ) (b : Bool) → a < from → (filter q (range_with_len (from + 1) n) ≡ a ∷ ys → ⊥) → cond b (from ∷ filter q (range_with_len (from + 1) n)) (filter q (range_with_len (from + 1) n)) ≡ a ∷ ys → ⊥
head-cases q from n a ys true h rest e = let same : from ≡ a = cc in absurd (omega (arith, same, h))
head-cases q from n a ys false h rest e = rest e

-- a number below the range isn't the first that passes
no-head : (q : ℕ → Bool) (from n a : ℕ) (ys : List ℕ) → a < from → filter q (range_with_len from n) ≡ a ∷ ys → ⊥
no-head q from zero a ys h e = cc
no-head q from (suc n) a ys h e = head-cases q from n a ys (q from) h (no-head q (from + 1) n a ys (omega arith)) e

abbrev Agree : (ℕ → Bool) → (ℕ → Bool) → ℕ → ℕ → Type 0
Agree p q from n = (c : ℕ) → from ≤ c → c < from + n → p c ≡ q c

agree-cases : (p q : ℕ → Bool) (from n : ℕ) (a b : Bool) → p from ≡ a → q from ≡ b → (filter p (range_with_len (from + 1) n) ≡ filter q (range_with_len (from + 1) n) → Agree p q (from + 1) n)
    → cond a (from ∷ filter p (range_with_len (from + 1) n)) (filter p (range_with_len (from + 1) n)) ≡ cond b (from ∷ filter q (range_with_len (from + 1) n)) (filter q (range_with_len (from + 1) n)) → Agree p q from (suc n)
agree-cases p q from n true true x y rest e c low high =
    ⊎_elim (λ same. ap p (sym same) ∙ x ∙ sym y ∙ ap q same) (λ more. rest (cc) c (omega (arith, more)) (omega arith)) (eq-or-lt_of_le low)
agree-cases p q from n false false x y rest e c low high =
    ⊎_elim (λ same. ap p (sym same) ∙ x ∙ sym y ∙ ap q same) (λ more. rest e c (omega (arith, more)) (omega arith)) (eq-or-lt_of_le low)
agree-cases p q from n true false x y rest e c low high = absurd (no-head q (from + 1) n from (filter p (range_with_len (from + 1) n)) (omega arith) (sym e))
agree-cases p q from n false true x y rest e c low high = absurd (no-head p (from + 1) n from (filter q (range_with_len (from + 1) n)) (omega arith) e)

-- tests that pass the same numbers of a range agree there
filter-agree : (p q : ℕ → Bool) (from n : ℕ) → filter p (range_with_len from n) ≡ filter q (range_with_len from n) → Agree p q from n
filter-agree p q from zero e = λ c low high. absurd (omega arith)
filter-agree p q from (suc n) e = agree-cases p q from n (p from) (q from) refl refl (filter-agree p q (from + 1) n) e

abbrev Values : (ℕ → ℤ) → (ℕ → ℤ) → (ℕ → Bool) → ℕ → ℕ → Type 0
Values f g p from n = (c : ℕ) → from ≤ c → c < from + n → p c ≡ true → f c ≡ g c

both-ways : (b : Bool) → b ≡ true → b ≡ false → ⊥
both-ways b t f = cc

values-cases : (f g : ℕ → ℤ) (p q : ℕ → Bool) (from n : ℕ) (b : Bool) → p from ≡ b → (map f (filter p (range_with_len (from + 1) n)) ≡ map g (filter q (range_with_len (from + 1) n)) → Values f g p (from + 1) n)
    → map f (cond b (from ∷ filter p (range_with_len (from + 1) n)) (filter p (range_with_len (from + 1) n))) ≡ map g (cond b (from ∷ filter q (range_with_len (from + 1) n)) (filter q (range_with_len (from + 1) n))) → Values f g p from (suc n)
values-cases f g p q from n true x rest e c low high t =
    ⊎_elim (λ same. let first : f from ≡ g from = cc in ap f (sym same) ∙ first ∙ ap g same) (λ more. rest (cc) c (omega (arith, more)) (omega arith) t) (eq-or-lt_of_le low)
values-cases f g p q from n false x rest e c low high t =
    ⊎_elim (λ same. absurd (both-ways (p c) t (ap p (sym same) ∙ x))) (λ more. rest e c (omega (arith, more)) (omega arith) t) (eq-or-lt_of_le low)

-- what is made of those that pass is the same for each
values-agree : (f g : ℕ → ℤ) (p q : ℕ → Bool) (from n : ℕ) → Agree p q from n → map f (filter p (range_with_len from n)) ≡ map g (filter q (range_with_len from n)) → Values f g p from n
values-agree f g p q from zero h e = λ c low high t. absurd (omega arith)
values-agree f g p q from (suc n) h e =
    values-cases f g p q from n (p from) refl (values-agree f g p q (from + 1) n (λ c low high. h c (omega arith) (omega arith)))
    (e ∙ ap (λ b. map g (cond b (from ∷ filter q (range_with_len (from + 1) n)) (filter q (range_with_len (from + 1) n)))) (sym (h from (omega arith) (omega arith))))

equal-numbers : (l u : ℤ) → l ≡ u → int_eq l u ≡ true
equal-numbers l u e = grind (arith, ints)

not-equal : (l u : ℤ) → l ≡ u → not (int_eq l u) ≡ true → ⊥
not-equal l u e h = let same = equal-numbers l u e in both-ways (not (int_eq l u)) h (ap not same)

lower-upper : (lower upper : Option ℤ) → is_some lower ≡ true → (is_some upper && not (are_equal lower upper)) ≡ true → stood lower upper AtLower ≡ stood lower upper AtUpper → ⊥
lower-upper None upper h k e = cc
lower-upper (Some l) None h k e = cc
lower-upper (Some l) (Some u) h k e = not-equal l u e k

lower-zero : (lower upper : Option ℤ) → is_some lower ≡ true → (not (is_some lower) && not (is_some upper)) ≡ true → ⊥
lower-zero None upper h k = cc
lower-zero (Some l) upper h k = cc

upper-zero : (lower upper : Option ℤ) → (is_some upper && not (are_equal lower upper)) ≡ true → (not (is_some lower) && not (is_some upper)) ≡ true → ⊥
upper-zero lower None h k = cc
upper-zero None (Some u) h k = cc
upper-zero (Some l) (Some u) h k = cc

-- a column stands in one way at a value
stand-unique : (lower upper : Option ℤ) (s r : Standing) → may_stand lower upper s ≡ true → may_stand lower upper r ≡ true → is_basic s ≡ is_basic r → (is_basic s ≡ false → stood lower upper s ≡ stood lower upper r) → s ≡ r
stand-unique lower upper Basic Basic h k e f = refl
stand-unique lower upper Basic AtLower h k e f = absurd (cc)
stand-unique lower upper Basic AtUpper h k e f = absurd (cc)
stand-unique lower upper Basic AtZero h k e f = absurd (cc)
stand-unique lower upper AtLower Basic h k e f = absurd (cc)
stand-unique lower upper AtLower AtLower h k e f = refl
stand-unique lower upper AtLower AtUpper h k e f = absurd (lower-upper lower upper h k (f refl))
stand-unique lower upper AtLower AtZero h k e f = absurd (lower-zero lower upper h k)
stand-unique lower upper AtUpper Basic h k e f = absurd (cc)
stand-unique lower upper AtUpper AtLower h k e f = absurd (lower-upper lower upper k h (sym (f refl)))
stand-unique lower upper AtUpper AtUpper h k e f = refl
stand-unique lower upper AtUpper AtZero h k e f = absurd (upper-zero lower upper h k)
stand-unique lower upper AtZero Basic h k e f = absurd (cc)
stand-unique lower upper AtZero AtLower h k e f = absurd (lower-zero lower upper k h)
stand-unique lower upper AtZero AtUpper h k e f = absurd (upper-zero lower upper k h)
stand-unique lower upper AtZero AtZero h k e f = refl

not-false : (b : Bool) → b ≡ false → not b ≡ true
not-false b h = ap not h

abbrev viewed : ℕ → List (Option ℤ) → List (Option ℤ) → List Standing → List ℤ
viewed w lower upper standings = map (λ c. stood (bound lower c) (bound upper c) (standing_at standings c)) (filter (is_outside_at standings) (range_with_len 0 w))

pub good-width : (t : Table) (m : Moment) → IsGood t m → width m.table ≡ width t
good-width t m good = omega (arith, good.variables, good.count)

seen : (t : Table) (m : Moment) → IsGood t m → outer m ≡ viewed (width t) t.lower t.upper m.standings
seen t m good =
    ap (λ w. viewed w m.table.lower m.table.upper m.standings) (good-width t m good)
    ∙ ap (λ l. viewed (width t) l m.table.upper m.standings) good.lower
    ∙ ap (λ u. viewed (width t) t.lower u m.standings) good.upper

based : (t : Table) (m : Moment) → IsGood t m → basis (columns m.table) m.standings ≡ basis (range_with_len 0 (width t)) m.standings
based t m good = ap (λ w. basis (range_with_len 0 w) m.standings) (good-width t m good)

stand-at : (t : Table) (m : Moment) (c : ℕ) → IsGood t m → c < width t → may_stand (bound t.lower c) (bound t.upper c) (standing_at m.standings c) ≡ true
stand-at t m c good h =
    ap (λ l. may_stand (bound l c) (bound t.upper c) (standing_at m.standings c)) (sym good.lower)
    ∙ ap (λ u. may_stand (bound m.table.lower c) (bound u c) (standing_at m.standings c)) (sym good.upper)
    ∙ good.legal.stand c (omega (arith, good-width t m good, h))

-- the same moments have the same standings
pub same-standings : (t : Table) (a b : Moment) → IsGood t a → IsGood t b → AreSame a b → a.standings ≡ b.standings
same-standings t a b first second same =
    let w = width t in
    let f : ℕ → ℤ = λ c. stood (bound t.lower c) (bound t.upper c) (standing_at a.standings c) in
    let g : ℕ → ℤ = λ c. stood (bound t.lower c) (bound t.upper c) (standing_at b.standings c) in
    let basics = filter-agree (is_basic_at a.standings) (is_basic_at b.standings) 0 w (sym (based t a first) ∙ same.basic ∙ based t b second) in
    let values = values-agree f g (is_outside_at a.standings) (is_outside_at b.standings) 0 w (λ c low high. ap not (basics c low high)) (sym (seen t a first) ∙ same.outside ∙ seen t b second) in
    let first_long : length a.standings ≡ w = first.legal.each ∙ good-width t a first in
    let second_long : length b.standings ≡ w = second.legal.each ∙ good-width t b second in
    ext_get_or Basic a.standings b.standings (first_long ∙ sym second_long) (λ c h.
    let less : c < w = omega (arith, h, first_long) in
    stand-unique (bound t.lower c) (bound t.upper c) (standing_at a.standings c) (standing_at b.standings c) (stand-at t a c first less) (stand-at t b c second less) (basics c (omega arith) (omega (arith, less))) (λ out. values c (omega arith) (omega (arith, less)) (not-false _ out)))

-- moments with the same standings are the same
pub standings-same : (t : Table) (a b : Moment) → IsGood t a → IsGood t b → a.standings ≡ b.standings → AreSame a b
standings-same t a b first second e = record {
  basic = based t a first ∙ ap (basis (range_with_len 0 (width t))) e ∙ sym (based t b second);
  outside = seen t a first ∙ ap (viewed (width t) t.lower t.upper) e ∙ sym (seen t b second);
}
