-- A tableau of at most one row whose numbers are small has no wide row.
use Rattle.std.proofs.Common.{◌≡◌, ℕ, suc, ◌+◌, ◌*◌, ◌^◌, ◌<◌, ◌≤◌, List, [], ◌∷◌, length, map, refl, ap, sym, ◌∙◌, subst, arith, ⊎_elim, Bool, true, false, cond, ◌==◌}
use Rattle.std.specs.Prelude.{ℤ, pos, neg_ℤ, nat_abs, ◌+ℤ◌, ◌*ℤ◌}
use Rattle.std.specs.Int.{◌∣◌}
use Rattle.std.specs.List.{list_all, range_with_len}
use Rattle.std.proofs.Math.IntN.{*ℤ_comm}
use Rattle.std.proofs.Math.Nat.{dvd-mul_right_of_dvd, mul-le-mul_right}
use Rattle.std.proofs.lemmas.Bool.{cases_lt}
use Rattle.std.proofs.lemmas.Int.{ints, unsigned_abs-mul}
use Rattle.std.proofs.lemmas.List.{get_or_past, length-map}
use Rattle.std.proofs.lemmas.List.FromFn.{length-range_with_len}
use Rattle.std.proofs.lemmas.Nat.Gcd.{dvd_refl}
use Rattle.base.proofs.Public.{*ℤ_assoc, +ℤ-*ℤ, neg_ℤ-*ℤ}
use Rattle.lin_atoms.specs.Dot.{dot}
use Rattle.lin_atoms.specs.Linear.{Linear, are_short}
use Rattle.lin_atoms.proofs.Public.{both_true}
use Rattle.int_rows.specs.Basis.{IsWideRow}
use Rattle.int_rows.specs.Node.{coefficient, equation, equations}
use Rattle.int_rows.specs.Rows.{Follows, content, entry}
use Rattle.int_rows.specs.declared.bounds.Bounded.{Bounded}
use Rattle.int_rows.proofs.Public.{Divides, coefficient-small, content-most, equation-at, zero-factor}

-- what divides each entry divides the row
divides-each : (n : ℕ) (row : List ℤ) → ((v : ℕ) → n ∣ nat_abs (entry row v)) → Divides n row
divides-each n [] h = tt
divides-each n (a ∷ row) h = (h 0, divides-each n row (λ v. h (suc v)))

-- a common positive factor goes away
without-factor : (m : ℕ) (k a b e : ℤ) → 0 < m → pos m *ℤ a ≡ k *ℤ e → pos m *ℤ b ≡ k → a ≡ b *ℤ e
without-factor m k a b e some h own =
    let apart = +ℤ-*ℤ a (neg_ℤ (b *ℤ e)) (pos m) in
    let minus = neg_ℤ-*ℤ (b *ℤ e) (pos m) in
    let one = *ℤ_comm a (pos m) in
    let two : (b *ℤ e) *ℤ pos m ≡ k *ℤ e = *ℤ_comm (b *ℤ e) (pos m) ∙ sym (*ℤ_assoc (pos m) b e) ∙ ap (λ z. z *ℤ e) own in
    let none = zero-factor (a +ℤ neg_ℤ (b *ℤ e)) m some (omega (arith, ints, apart, minus, one, two, h)) in
    omega (arith, ints, none)

only-one : (ms : List ℤ) → length ms ≡ 1 → (k : ℤ) × (ms ≡ k ∷ [])
only-one [] h = absurd (omega arith)
only-one (k ∷ []) h = (k, refl)
only-one (k ∷ l ∷ ms) h = absurd (omega arith)

times-one : (k : ℤ) → k *ℤ pos 1 ≡ k
times-one k = grind (arith, ints)

-- a row that follows from one equation is a multiple of it
multiple-of-one : (e row : List ℤ) (slack : ℕ) → Follows (e ∷ []) row → entry e slack ≡ pos 1 → (v : ℕ) → entry row v ≡ entry row slack *ℤ entry e v
multiple-of-one e row slack is one v =
    let only = only-one is.multipliers is.each in
    let each : (w : ℕ) → pos is.multiple *ℤ entry row w ≡ only.0 *ℤ entry e w = λ w.
    let sum = is.combination w ∙ ap (λ ms. dot ms (entry e w ∷ [])) only.1 in omega (arith, ints, sum) in
    without-factor is.multiple only.0 (entry row v) (entry row slack) (entry e v) is.positive (each v) (each slack ∙ ap (λ z. only.0 *ℤ z) one ∙ times-one only.0)

-- and a primitive one has no greater entries
no-greater : (e row : List ℤ) (slack : ℕ) → Follows (e ∷ []) row → entry e slack ≡ pos 1 → content row ≡ 1 → (v : ℕ) → nat_abs (entry row v) ≤ nat_abs (entry e v)
no-greater e row slack is one primitive v =
    let n = nat_abs (entry row slack) in
    let product : (w : ℕ) → nat_abs (entry row w) ≡ n * nat_abs (entry e w) = λ w. ap nat_abs (multiple-of-one e row slack is one w) ∙ unsigned_abs-mul (entry row slack) (entry e w) in
    let common = divides-each n row (λ w. subst (λ k. n ∣ k) (sym (product w)) (dvd-mul_right_of_dvd n (dvd_refl n) (nat_abs (entry e w)))) in
    let most = content-most n row common (omega (arith, primitive)) in
    let unit : n ≤ 1 = omega (arith, most, primitive) in
    let less : n * nat_abs (entry e v) ≤ 1 * nat_abs (entry e v) = mul-le-mul_right (nat_abs (entry e v)) unit in
    omega (arith, less, product v)

entry-small : (c : ℤ) (b : Bool) → nat_abs c < 2 ^ 63 → nat_abs (cond b (pos 1) (neg_ℤ c)) < 2 ^ 63
entry-small c true h = omega (arith, ints)
entry-small c false h = omega (arith, ints, h)

length-equation : (columns slack : ℕ) (lin : Linear) → length (equation columns slack lin) ≡ columns
length-equation columns slack lin = length-map (range_with_len 0 columns) _ ∙ length-range_with_len 0 columns

equation-small : (columns slack : ℕ) (lin : Linear) (v : ℕ) → are_short lin.terms ≡ true → nat_abs (entry (equation columns slack lin) v) < 2 ^ 63
equation-small columns slack lin v small =
    ⊎_elim (λ less. subst (λ z. nat_abs z < 2 ^ 63) (sym (equation-at columns slack lin v less)) (entry-small (coefficient lin.terms v) (v == slack) (coefficient-small lin.terms v small)))
    (λ past.
    let long = length-equation columns slack lin in
    subst (λ z. nat_abs z < 2 ^ 63) (sym (get_or_past (equation columns slack lin) v (pos 0) (omega (arith, long, past)))) (omega (arith, ints)))
    (cases_lt v columns)

same-number : (n : ℕ) → (n == n) ≡ true
same-number n = grind arith

own-entry : (columns slack : ℕ) (lin : Linear) → slack < columns → entry (equation columns slack lin) slack ≡ pos 1
own-entry columns slack lin h = equation-at columns slack lin slack h ∙ ap (λ b. cond b (pos 1) (neg_ℤ (coefficient lin.terms slack))) (same-number slack)

primitive-content : (row : List ℤ) → (content row == 1) ≡ true → content row ≡ 1
primitive-content row h = grind arith

one-row : (columns slack : ℕ) (lin : Linear) (basis : List ℕ) (wide : ℤ) → slack < columns → are_short lin.terms ≡ true → IsWideRow columns (equation columns slack lin ∷ []) basis wide → ⊥
one-row columns slack lin basis wide within small is =
    let e = equation columns slack lin in
    let less = no-greater e is.row slack is.is_row.follows (own-entry columns slack lin within) (primitive-content is.row is.is_row.primitive) is.place in
    let room = equation-small columns slack lin is.place small in
    let much : 2 ^ 63 ≤ nat_abs (entry is.row is.place) = subst (λ z. 2 ^ 63 ≤ nat_abs z) (sym is.is_entry) is.is_wide in
    omega (arith, less, room, much)

pub no-row : (columns : ℕ) (basis : List ℕ) (wide : ℤ) → IsWideRow columns [] basis wide → ⊥
no-row columns basis wide is = let full = is.is_basis.full in let place = is.basic.1 in omega (arith, full, place)

pub few-rows : (variables : ℕ) (rows : List Bounded) (basis : List ℕ) (wide : ℤ) → length rows ≤ 1 → list_all (λ b. are_short b.form.terms) rows ≡ true
    → IsWideRow (variables + length rows) (equations (variables + length rows) variables (map (λ b. b.form) rows)) basis wide → ⊥
few-rows variables [] basis wide few small is = no-row (variables + 0) basis wide is
few-rows variables (b ∷ []) basis wide few small is =
    one-row (variables + 1) variables b.form basis wide (omega arith) (both_true (are_short b.form.terms) _ small).0 is
few-rows variables (a ∷ b ∷ rows) basis wide few small is = absurd (omega arith)
