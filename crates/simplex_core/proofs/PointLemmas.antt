-- The basic point of a moment: the values of all columns over one denominator.
use Rattle.std.proofs.Common.{◌≡◌, ℕ, suc, zero, List, [], ◌∷◌, refl, ap, sym, ◌∙◌, subst, arith, ◌<◌, ◌≤◌, ◌*◌, ◌/◌, true, false, Bool, cond, length, get_or, set, map, ⊎_elim, ◌⊎◌, inl, inr, ◌==◌, eqb}
use Rattle.std.specs.Prelude.{ℤ, pos, neg_ℤ, ◌+ℤ◌, ◌*ℤ◌, ◌<ℤ◌, nat_abs, ◌||◌}
use Rattle.std.specs.Int.{◌∣◌}
use Rattle.std.proofs.lemmas.Bool.{cases_lt, eq-eqb}
use Rattle.std.specs.List.{All}
use Rattle.std.proofs.Math.IntN.{*ℤ_comm}
use Rattle.std.proofs.Math.Nat.{div-mul_cancel, dvd-mul_left_of_dvd, dvd-mul_right, mul-le-mul_right}
use Rattle.std.proofs.lemmas.Int.{ints}
use Rattle.std.proofs.lemmas.List.{get_or-map, length-map, get_or_default, length-set}
use Rattle.std.proofs.lemmas.List.Elements.{All-head, All-tail}
use Rattle.base.proofs.Public.{*ℤ_assoc, +ℤ-*ℤ, neg_ℤ-*ℤ}
use Rattle.lin_atoms.specs.Dot.{dot}
use Rattle.lin_atoms.specs.Ratio.{Fraction}
use Rattle.lin_atoms.proofs.Public.{positive}
use Rattle.int_rows.specs.Basis.{Point, is_in}
use Rattle.int_rows.specs.Rows.{Solves, SolvesAll, entry}
use Rattle.int_rows.specs.Table.{IsTable, Table, basic_at, row_at, width}
use Rattle.simplex_core.specs.Coordinate.{coordinate, others}
use Rattle.simplex_core.specs.Standings.{AreStandings}
use Rattle.simplex_core.specs.declared.standing.Standing.{Standing}
use Rattle.simplex_core.specs.Run.{Moment, coordinate_at, coordinates, is_basic, moment, row_of, row_value, standing_at, stood_at, values}
use Rattle.simplex_core.proofs.CoordinateLemmas.{masked-at}
use Rattle.simplex_core.proofs.MomentLemmas.{basic-coordinate, coordinates-at, coordinates-length, outer-coordinate, row_of-at, row_of-within, values-at, values-length}

-- a denominator for all
abbrev pub common : List Fraction → ℕ
common [] = 1
common (q ∷ qs) = nat_abs q.den * common qs

-- the numerator over a denominator
abbrev pub over : ℕ → Fraction → ℤ
over d q = q.num *ℤ pos (d / nat_abs q.den)

abbrev pub point_of : Moment → Point
point_of m = record { nums = map (over (common (coordinates m))) (coordinates m); den = common (coordinates m) }

product-some : (a b : ℕ) → 0 < a → 0 < b → 0 < a * b
product-some zero b h k = absurd (omega arith)
product-some (suc a) b h k =
    let more : 1 * b ≤ suc a * b = mul-le-mul_right b (omega arith) in
    omega arith

or_true : (b : Bool) → (b || true) ≡ true
or_true true = refl
or_true false = refl

pub decided : (a b : ℕ) → (a ≡ b) ⊎ (a ≡ b → ⊥)
decided a b = ⊎_elim (λ lt. inr (λ e. absurd (omega arith))) (λ ge. ⊎_elim (λ lt. inr (λ e. absurd (omega arith))) (λ ge'. inl (omega arith)) (cases_lt b a)) (cases_lt a b)

pub common-some : (qs : List Fraction) → All (λ q. pos 0 <ℤ q.den) qs → 0 < common qs
common-some [] h = omega arith
common-some (q ∷ qs) h =
    let first : pos 0 <ℤ q.den = All-head (λ q. pos 0 <ℤ q.den) q qs h in
    let rest = common-some qs (All-tail (λ q. pos 0 <ℤ q.den) q qs h) in
    product-some (nat_abs q.den) (common qs) (omega (arith, ints)) rest

pub common-divides : (qs : List Fraction) (k : ℕ) (d : Fraction) → k < length qs → nat_abs (get_or qs k d).den ∣ common qs
common-divides [] k d h = absurd (omega arith)
common-divides (q ∷ qs) zero d h = dvd-mul_right (nat_abs q.den) (common qs)
common-divides (q ∷ qs) (suc k) d h = dvd-mul_left_of_dvd (nat_abs (get_or qs k d).den) (common-divides qs k d (omega arith)) (nat_abs q.den)

pub over-same : (q : Fraction) (d : ℕ) → pos 0 <ℤ q.den → nat_abs q.den ∣ d → over d q *ℤ q.den ≡ q.num *ℤ pos d
over-same q d some divides =
    let e = nat_abs q.den in
    let whole : d / e * e ≡ d = div-mul_cancel e divides in
    ap (λ z. (q.num *ℤ pos (d / e)) *ℤ z) (positive q.den some) ∙ *ℤ_assoc q.num (pos (d / e)) (pos e) ∙ ap (λ (n : ℕ). q.num *ℤ pos n) whole

-- a product apart from the others
pub dot-apart : (xs ys : List ℤ) (b : ℕ) → b < length xs → length xs ≡ length ys → dot xs ys ≡ dot (set xs b (pos 0)) ys +ℤ entry xs b *ℤ entry ys b
dot-apart [] ys b h e = absurd (omega arith)
dot-apart (x ∷ xs) [] b h e = absurd (omega arith)
dot-apart (x ∷ xs) (y ∷ ys) zero h e = omega (arith, ints)
dot-apart (x ∷ xs) (y ∷ ys) (suc b) h e =
    let rest = dot-apart xs ys b (omega arith) (omega arith) in
    omega (arith, ints)

-- products that are multiples of others by one number
pub dot-times : (xs ys zs : List ℤ) (d : ℤ) → length xs ≡ length ys → length ys ≡ length zs → ((c : ℕ) → c < length xs → entry xs c *ℤ entry ys c ≡ (entry xs c *ℤ entry zs c) *ℤ d) → dot xs ys ≡ dot xs zs *ℤ d
dot-times [] ys zs d e f h = omega (arith, ints)
dot-times (x ∷ xs) [] zs d e f h = absurd (omega arith)
dot-times (x ∷ xs) (y ∷ ys) [] d e f h = absurd (omega arith)
dot-times (x ∷ xs) (y ∷ ys) (z ∷ zs) d e f h =
    let first = h 0 (omega arith) in
    let rest = dot-times xs ys zs d (omega arith) (omega arith) (λ c k. h (suc c) (omega arith)) in
    let apart = +ℤ-*ℤ (x *ℤ z) (dot xs zs) d in
    omega (arith, ints)

-- columns of the basis
in_at : (basic : List ℕ) (i : ℕ) → i < length basic → is_in basic (basic_at basic i) ≡ true
in_at [] i h = absurd (omega arith)
in_at (b ∷ basic) zero h = ap (λ t. t || is_in basic b) (eq-eqb b b refl)
in_at (b ∷ basic) (suc i) h = ap (λ t. (b == basic_at basic i) || t) (in_at basic i (omega arith)) ∙ or_true (b == basic_at basic i)

-- the row of a basic column is its own
own_row : (t : Table) (i : ℕ) → IsTable t → i < length t.rows → row_of t.basic (basic_at t.basic i) ≡ i
own_row t i is h =
    let within : i < length t.basic = omega (arith, is.basics) in
    let b = basic_at t.basic i in
    let there = in_at t.basic i within in
    let j = row_of t.basic b in
    let j_within : j < length t.basic = row_of-within t.basic b there in
    let same : basic_at t.basic j ≡ b = row_of-at t.basic b there in
    let solved = is.solved i h in
    ⊎_elim (λ e. e) (λ ne. absurd (
    let none : entry (row_at t.rows i) (basic_at t.basic j) ≡ pos 0 = solved.zero j j_within ne in
    let none' : entry (row_at t.rows i) b ≡ pos 0 = sym (ap (entry (row_at t.rows i)) same) ∙ none in
    let some = solved.positive in
    omega (arith, ints, none', some)
    )) (decided j i)

pub den-positive : (t : Table) (standings : List Standing) (c : ℕ) → IsTable t → AreStandings t standings → c < width t → pos 0 <ℤ (coordinate_at (moment t standings) c).den
den-positive t standings c is are h = by (is_basic (standing_at standings c)) refl where
  by : (b : Bool) → is_basic (standing_at standings c) ≡ b → pos 0 <ℤ (coordinate_at (moment t standings) c).den
  by true e =
      let m = moment t standings in
      let there : is_in t.basic c ≡ true = sym (are.basic c h) ∙ e in
      let i = row_of t.basic c in
      let within : i < length t.basic = row_of-within t.basic c there in
      let within' : i < length t.rows = omega (arith, is.basics) in
      let P : Fraction → Type 0 = λ q. pos 0 <ℤ q.den in
      subst P (sym (basic-coordinate m c e)) (is.solved i within').positive
  by false e =
      let P : Fraction → Type 0 = λ q. pos 0 <ℤ q.den in
      subst P (sym (outer-coordinate (moment t standings) c e)) (omega (arith, ints))

pub dens-positive : (t : Table) (standings : List Standing) → IsTable t → AreStandings t standings → All (λ q. pos 0 <ℤ q.den) (coordinates (moment t standings))
dens-positive t standings is are k d h =
    let m = moment t standings in
    let within : k < width t = omega (arith, h, coordinates-length m) in
    let P : Fraction → Type 0 = λ q. pos 0 <ℤ q.den in
    subst P (sym (coordinates-at m k d within)) (den-positive t standings k is are within)

-- each coordinate is the point's
pub point-at : (t : Table) (standings : List Standing) (c : ℕ) → IsTable t → AreStandings t standings → c < width t → entry (point_of (moment t standings)).nums c *ℤ (coordinate_at (moment t standings) c).den ≡ (coordinate_at (moment t standings) c).num *ℤ pos (point_of (moment t standings)).den
point-at t standings c is are h =
    let m = moment t standings in
    let qs = coordinates m in
    let none = coordinate_at m c in
    let within : c < length qs = omega (arith, coordinates-length m) in
    let here : get_or qs c none ≡ none = coordinates-at m c none h in
    let num : entry (point_of m).nums c ≡ over (common qs) none = get_or-map (over (common qs)) qs c none (pos 0) within ∙ ap (over (common qs)) here in
    let divides : nat_abs none.den ∣ common qs = subst (λ (q : Fraction). nat_abs q.den ∣ common qs) here (common-divides qs c none within) in
    ap (λ z. z *ℤ none.den) num ∙ over-same none (common qs) (den-positive t standings c is are h) divides

-- a column outside the basis
pub point-outer : (t : Table) (standings : List Standing) (c : ℕ) → IsTable t → AreStandings t standings → c < width t → is_basic (standing_at standings c) ≡ false → entry (point_of (moment t standings)).nums c ≡ stood_at (moment t standings) c *ℤ pos (point_of (moment t standings)).den
point-outer t standings c is are h e =
    let m = moment t standings in
    let n = entry (point_of m).nums c in
    let d = pos (point_of m).den in
    let P : Fraction → Type 0 = λ q. n *ℤ q.den ≡ q.num *ℤ d in
    let told : n *ℤ pos 1 ≡ stood_at m c *ℤ d = subst P (outer-coordinate m c e) (point-at t standings c is are h) in
    omega (arith, ints)

pub nums-length : (m : Moment) → length (point_of m).nums ≡ width m.table
nums-length m = length-map (coordinates m) (over (common (coordinates m))) ∙ coordinates-length m

-- 0 times a number
*ℤ_zero : (n : ℤ) → pos 0 ≡ pos 0 *ℤ n
*ℤ_zero n = omega (arith, ints)

zero_both : (z n v d : ℤ) → z ≡ pos 0 → z *ℤ n ≡ (z *ℤ v) *ℤ d
zero_both z n v d e =
    let P : ℤ → Type 0 = λ y. y *ℤ n ≡ (y *ℤ v) *ℤ d in
    let zeros : pos 0 *ℤ n ≡ (pos 0 *ℤ v) *ℤ d = sym (*ℤ_zero n) ∙ *ℤ_zero d ∙ ap (λ y. y *ℤ d) (*ℤ_zero v) in
    subst P (sym e) zeros

-- a column in another place is outside the basis, or its entry is 0
outer_or_zero : (t : Table) (standings : List Standing) (i c : ℕ) → IsTable t → AreStandings t standings → i < length t.rows → c < width t → eqb c (basic_at t.basic i) ≡ false
    → (entry (point_of (moment t standings)).nums c ≡ entry (values (moment t standings)) c *ℤ pos (point_of (moment t standings)).den) ⊎ (entry (row_at t.rows i) c ≡ pos 0)
outer_or_zero t standings i c is are h k e = by (is_basic (standing_at standings c)) refl where
  by : (b : Bool) → is_basic (standing_at standings c) ≡ b → (entry (point_of (moment t standings)).nums c ≡ entry (values (moment t standings)) c *ℤ pos (point_of (moment t standings)).den) ⊎ (entry (row_at t.rows i) c ≡ pos 0)
  by false out =
      let m = moment t standings in
      inl (point-outer t standings c is are k out ∙ ap (λ z. z *ℤ pos (point_of m).den) (sym (values-at m c (pos 0) k)))
  by true basic =
      let there : is_in t.basic c ≡ true = sym (are.basic c k) ∙ basic in
      let j = row_of t.basic c in
      let within : j < length t.basic = row_of-within t.basic c there in
      let same : basic_at t.basic j ≡ c = row_of-at t.basic c there in
      let other : j ≡ i → ⊥ = λ eq. let own : c ≡ basic_at t.basic i = sym same ∙ ap (basic_at t.basic) eq in let yes = eq-eqb c (basic_at t.basic i) own in let no : false ≡ true = sym e ∙ yes in absurd (cc) in
      inr (sym (ap (entry (row_at t.rows i)) same) ∙ (is.solved i h).zero j within other)

by_cases : (e : Bool) (x : Bool) → x ≡ e → (z n v d a : ℤ) → z ≡ cond e (pos 0) a → (x ≡ false → (n ≡ v *ℤ d) ⊎ (a ≡ pos 0)) → z *ℤ n ≡ (z *ℤ v) *ℤ d
by_cases true x t z n v d a is told = zero_both z n v d is
by_cases false x t z n v d a is told = ⊎_elim (λ out. ap (λ y. z *ℤ y) out ∙ sym (*ℤ_assoc z v d)) (λ zero'. zero_both z n v d (is ∙ zero')) (told t)

-- the other columns of a row, at the point and at the values outside the basis
others-at : (t : Table) (standings : List Standing) (i c : ℕ) → IsTable t → AreStandings t standings → i < length t.rows → c < width t
    → entry (set (row_at t.rows i) (basic_at t.basic i) (pos 0)) c *ℤ entry (point_of (moment t standings)).nums c ≡ (entry (set (row_at t.rows i) (basic_at t.basic i) (pos 0)) c *ℤ entry (values (moment t standings)) c) *ℤ pos (point_of (moment t standings)).den
others-at t standings i c is are h k =
    let m = moment t standings in
    let row = row_at t.rows i in
    let b = basic_at t.basic i in
    let n = entry (point_of m).nums c in
    let v = entry (values m) c in
    let d = pos (point_of m).den in
    let b_within : b < width t = is.within i (omega (arith, is.basics)) in
    let inside : b < length row = omega (arith, (is.solved i h).width) in
    let there : entry (set row b (pos 0)) c ≡ cond (eqb c b) (pos 0) (entry row c) = masked-at row b c inside in
    by_cases (eqb c b) (eqb c b) refl (entry (set row b (pos 0)) c) n v d (entry row c) there (λ e. outer_or_zero t standings i c is are h k e)

-- the point solves each row
pub point-row : (t : Table) (standings : List Standing) (i : ℕ) → IsTable t → AreStandings t standings → i < length t.rows → Solves (point_of (moment t standings)).nums (row_at t.rows i)
point-row t standings i is are h =
    let m = moment t standings in
    let row = row_at t.rows i in
    let b = basic_at t.basic i in
    let nums = (point_of m).nums in
    let d = pos (point_of m).den in
    let masked = set row b (pos 0) in
    let solved = is.solved i h in
    let b_within : b < width t = is.within i (omega (arith, is.basics)) in
    let inside : b < length row = omega (arith, solved.width) in
    let same_length : length row ≡ length nums = solved.width ∙ sym (nums-length m) in
    let masked_length : length masked ≡ length nums = length-set row b (pos 0) ∙ same_length in
    let apart = dot-apart row nums b inside same_length in
    let rest : dot masked nums ≡ dot masked (values m) *ℤ d =
    dot-times masked nums (values m) d masked_length (nums-length m ∙ sym (values-length m)) (λ c k. others-at t standings i c is are h (omega (arith, k, masked_length, nums-length m))) in
    let there : is_basic (standing_at standings b) ≡ true = are.basic b b_within ∙ in_at t.basic i (omega (arith, is.basics)) in
    let own : coordinate_at m b ≡ coordinate row (values m) b = basic-coordinate m b there ∙ ap (row_value m) (own_row t i is h) in
    let P : Fraction → Type 0 = λ q. entry nums b *ℤ q.den ≡ q.num *ℤ d in
    let told : entry nums b *ℤ entry row b ≡ neg_ℤ (others row (values m) b) *ℤ d = subst P own (point-at t standings b is are b_within) in
    let turned : entry row b *ℤ entry nums b ≡ neg_ℤ (others row (values m) b *ℤ d) = *ℤ_comm (entry row b) (entry nums b) ∙ told ∙ neg_ℤ-*ℤ (others row (values m) b) d in
    omega (arith, ints)

pub point-solves : (t : Table) (standings : List Standing) → IsTable t → AreStandings t standings → SolvesAll (point_of (moment t standings)).nums t.rows
point-solves t standings is are k d h =
    subst (Solves (point_of (moment t standings)).nums) (get_or_default t.rows k [] d h) (point-row t standings k is are h)

-- the value of a row's own column
pub own-coordinate : (t : Table) (standings : List Standing) (i : ℕ) → IsTable t → AreStandings t standings → i < length t.rows → coordinate_at (moment t standings) (basic_at t.basic i) ≡ coordinate (row_at t.rows i) (values (moment t standings)) (basic_at t.basic i)
own-coordinate t standings i is are h =
    let m = moment t standings in
    let b = basic_at t.basic i in
    let b_within : b < width t = is.within i (omega (arith, is.basics)) in
    let there : is_basic (standing_at standings b) ≡ true = are.basic b b_within ∙ in_at t.basic i (omega (arith, is.basics)) in
    basic-coordinate m b there ∙ ap (row_value m) (own_row t i is h)

-- another basic column has the entry 0
pub other-zero : (t : Table) (standings : List Standing) (i c : ℕ) → IsTable t → AreStandings t standings → i < length t.rows → c < width t → (c ≡ basic_at t.basic i → ⊥) → is_basic (standing_at standings c) ≡ true → entry (row_at t.rows i) c ≡ pos 0
other-zero t standings i c is are h k ne basic =
    let there : is_in t.basic c ≡ true = sym (are.basic c k) ∙ basic in
    let j = row_of t.basic c in
    let within : j < length t.basic = row_of-within t.basic c there in
    let same : basic_at t.basic j ≡ c = row_of-at t.basic c there in
    let other : j ≡ i → ⊥ = λ eq. ne (sym same ∙ ap (basic_at t.basic) eq) in
    sym (ap (entry (row_at t.rows i)) same) ∙ (is.solved i h).zero j within other
