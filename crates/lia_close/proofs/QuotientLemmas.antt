-- Two roundings whose results add up to a number above 0, below the name of a quotient.
use Rattle.std.proofs.Common.{◌≡◌, ℕ, zero, suc, ◌+◌, ◌-◌, ◌^◌, ◌<◌, List, [], ◌∷◌, ◌++◌, length, nat_abs, refl, ap, sym, ◌∙◌, subst, arith, true, false, ◌&&◌, Some}
use Rattle.std.specs.Prelude.{ℤ, pos, neg_ℤ, ◌+ℤ◌, ◌-ℤ◌, ◌*ℤ◌, ◌<ℤ◌, ◌%◌, slice_get}
use Rattle.std.specs.Int.{int_div_euclid, int_rem_euclid}
use Rattle.std.specs.List.{list_all}
use Rattle.std.specs.Option.{option_map_or}
use Rattle.std.proofs.Math.Nat.{mod_self}
use Rattle.std.proofs.lemmas.Bool.{and_from, eq-eqb, eqb-false, eqb-true, le-leb, lt-ltb}
use Rattle.std.proofs.lemmas.Int.{ints}
use Rattle.std.proofs.lemmas.List.{length-append}
use Rattle.base.proofs.Public.{+ℤ-*ℤ, neg_ℤ-*ℤ}
use Rattle.lin_atoms.specs.Algebra.{negated, scaled}
use Rattle.lin_atoms.specs.Denial.{linear_of, lit_fits}
use Rattle.lin_atoms.specs.Linear.{Linear, are_ordered, fits, is_short, of_constant, value_at, variable_at}
use Rattle.lin_atoms.specs.Multiples.{is_multiple}
use Rattle.lin_atoms.specs.declared.lit.Lit.{Lit}
use Rattle.lin_atoms.specs.declared.lit.Lit.TheVariants.{Le, Eq, Div, NDiv}
use Rattle.lin_atoms.proofs.Public.{multiple_where, quotient-rest, quotient_is, rest-below, rest-natural, value_at-added, value_at-scaled}
use Rattle.int_rows.specs.Ready.{rounded}
use Rattle.int_rows.proofs.ReadyLemmas.{true-le}
use Rattle.refutation_trees.specs.Combination.{combined, is_divided_by, is_division, is_multiplier, linear_at, may_be_multiplied, quotient}
use Rattle.refutation_trees.specs.Refutation.{has_quotient, new_variable, quotient_at}
use Rattle.refutation_trees.specs.declared.tree.Refutation.TheViews.{Quotient}
use Rattle.refutation_trees.specs.declared.tree.Refutation.TheVariants.{Leaf}
use Rattle.lia_close.specs.Placed.{IsSoundAt, Place, with_known}
use Rattle.lia_close.specs.declared.leaf.Rounding.{Rounding}
use Rattle.lia_close.specs.machinery.Closing.{derived, derived_by, may_round, under}
use Rattle.lia_close.specs.machinery.Falsehood.{summed_pair}
use Rattle.lia_close.proofs.LeafLemmas.{get-last, sound-under}
use Rattle.lia_close.proofs.PlacedLemmas.{sound-leaf, sound-quotient}
use Rattle.lia_close.proofs.RoundLemmas.{found-linear, legal-round, rounded-fits}
use Rattle.lia_close.proofs.SideLemmas.{combined-once, combined-turned, once, turned}
use Rattle.lia_close.proofs.ValueLemmas.{above-everywhere}

-- a form of one variable
abbrev alone : ℕ → ℤ → ℤ → Linear
alone q a k = record { terms = (q, a) ∷ []; constant = k }

ordered-alone : (q : ℕ) (a k : ℤ) → 0 < nat_abs a → are_ordered 0 (alone q a k).terms ≡ true
ordered-alone q a k some = and_from _ _ (le-leb 0 q (omega arith)) (and_from _ _ (lt-ltb 0 (nat_abs a) some) refl)

fits-alone : (q : ℕ) (a k : ℤ) → nat_abs a < 2 ^ 63 → nat_abs k < 2 ^ 64 → fits (alone q a k) ≡ true
fits-alone q a k small long = and_from _ _ (and_from _ _ (lt-ltb _ _ small) refl) (lt-ltb _ _ long)

divides-alone : (q n : ℕ) (a k : ℤ) → nat_abs a ≡ n → is_divided_by (pos n) (alone q a k) ≡ true
divides-alone q n a k e = and_from _ _ (eq-eqb (nat_abs a % n) 0 (ap (λ (m : ℕ). m % n) e ∙ mod_self n)) refl

-- a literal on one variable alone is divided by the coefficient, with either sign
round-plain : (known : List Lit) (number : ℕ) (lit : Lit) (n q : ℕ) (a k : ℤ) → slice_get known number ≡ Some lit → linear_of lit ≡ alone q a k → may_be_multiplied (pos 1) lit ≡ true → 0 < n → nat_abs a ≡ n → n < 2 ^ 63 → nat_abs k < 2 ^ 64
    → let r : Rounding = record { number = number; sign = pos 1; divisor = pos n } in (may_round known r ≡ true) × (linear_of (derived_by known r) ≡ rounded (pos n) (alone q a k))
round-plain known number lit n q a k there e may some same small long =
    let lin = alone q a k in
    let is = combined-once known number lin (found-linear known number lit there ∙ e) (ordered-alone q a k (omega (arith, some, same))) in
    let legal : is_multiplier known (number, pos 1) ≡ true = ap (λ o. is_short (pos 1) && option_map_or (may_be_multiplied (pos 1)) o false) there ∙ may in
    let r : Rounding = record { number = number; sign = pos 1; divisor = pos n } in (
      legal-round known r lin legal is (true-le (pos 1) (pos n) (omega (arith, ints, some))) (divides-alone q n a k same) (rounded-fits n lin (fits-alone q a k (omega (arith, same, small)) long)),
      ap (rounded (pos n)) is,
    )

round-turned : (known : List Lit) (number n q : ℕ) (a k : ℤ) → slice_get known number ≡ Some (Eq (alone q a k)) → 0 < n → nat_abs a ≡ n → n < 2 ^ 63 → nat_abs k < 2 ^ 64
    → let r : Rounding = record { number = number; sign = neg_ℤ (pos 1); divisor = pos n } in (may_round known r ≡ true) × (linear_of (derived_by known r) ≡ rounded (pos n) (alone q (neg_ℤ a) (neg_ℤ k)))
round-turned known number n q a k there some same small long =
    let lin = alone q a k in
    let is = combined-turned known number lin (found-linear known number (Eq lin) there) (ordered-alone q a k (omega (arith, some, same))) in
    let legal : is_multiplier known (number, neg_ℤ (pos 1)) ≡ true = ap (λ o. is_short (neg_ℤ (pos 1)) && option_map_or (may_be_multiplied (neg_ℤ (pos 1))) o false) there in
    let turned_same : nat_abs (neg_ℤ a) ≡ n = (let e : nat_abs (neg_ℤ a) ≡ nat_abs a = omega (arith, ints) in e) ∙ same in
    let turned_long : nat_abs (neg_ℤ k) < 2 ^ 64 = omega (arith, ints, long) in
    let r : Rounding = record { number = number; sign = neg_ℤ (pos 1); divisor = pos n } in (
      legal-round known r (negated lin) legal is (true-le (pos 1) (pos n) (omega (arith, ints, some))) (divides-alone q n (neg_ℤ a) (neg_ℤ k) turned_same) (rounded-fits n (negated lin) (fits-alone q (neg_ℤ a) (neg_ℤ k) (omega (arith, turned_same, small)) turned_long)),
      ap (rounded (pos n)) is,
    )

-- the value of what a rounding gives
rounded-value : (point : List ℤ) (n q : ℕ) (a k b c : ℤ) → int_div_euclid a (pos n) ≡ b → int_div_euclid (neg_ℤ k) (pos n) ≡ c → value_at point (rounded (pos n) (alone q a k)) ≡ b *ℤ variable_at point q -ℤ c
rounded-value point n q a k b c e f =
    ap (λ z. (z *ℤ variable_at point q +ℤ pos 0) +ℤ neg_ℤ (int_div_euclid (neg_ℤ k) (pos n))) e ∙ ap (λ z. (b *ℤ variable_at point q +ℤ pos 0) +ℤ neg_ℤ z) f
    ∙ (let same : (b *ℤ variable_at point q +ℤ pos 0) +ℤ neg_ℤ c ≡ b *ℤ variable_at point q -ℤ c = omega (arith, ints) in same)

div-own : (n : ℕ) → 0 < n → int_div_euclid (pos n) (pos n) ≡ pos 1
div-own n some =
    let one = once (pos n) in
    sym (quotient_is (pos n) (pos 1) (pos n) 0 (omega (arith, ints, some)) (omega (arith, ints, one)) (omega (arith, some)))

div-turned : (n : ℕ) → 0 < n → int_div_euclid (neg_ℤ (pos n)) (pos n) ≡ neg_ℤ (pos 1)
div-turned n some =
    let one = turned (pos n) in
    sym (quotient_is (neg_ℤ (pos n)) (neg_ℤ (pos 1)) (pos n) 0 (omega (arith, ints, some)) (omega (arith, ints, one)) (omega (arith, some)))

div-twice : (n : ℕ) → 0 < n → int_div_euclid (neg_ℤ (neg_ℤ (pos n))) (pos n) ≡ pos 1
div-twice n some = ap (λ z. int_div_euclid z (pos n)) (let same : neg_ℤ (neg_ℤ (pos n)) ≡ pos n = omega (arith, ints) in same) ∙ div-own n some

-- what isn't a multiple lies between two, so that its negation is rounded down to one less
floors : (c : ℤ) (n : ℕ) → 0 < n → is_multiple (pos n) c ≡ false → int_div_euclid (neg_ℤ c) (pos n) ≡ neg_ℤ (int_div_euclid c (pos n)) -ℤ pos 1
floors c n some not_so =
    let f = int_div_euclid c (pos n) in
    let above : pos 0 <ℤ pos n = omega (arith, ints, some) in
    let r = nat_abs (int_rem_euclid c (pos n)) in
    let rest = quotient-rest c (pos n) above in
    let natural = rest-natural c (pos n) in
    let small : r < n = rest-below c (pos n) above in
    let other = eqb-false r 0 (multiple_where c n some ∙ not_so) in
    let parts = +ℤ-*ℤ (neg_ℤ f) (neg_ℤ (pos 1)) (pos n) in
    let minus = neg_ℤ-*ℤ f (pos n) in
    let one = turned (pos n) in
    let is = quotient_is (neg_ℤ c) (neg_ℤ f +ℤ neg_ℤ (pos 1)) (pos n) (n - r) above (omega (arith, ints, rest, natural, small, parts, minus, one)) (omega (arith, small, other)) in
    sym is ∙ (let same : neg_ℤ f +ℤ neg_ℤ (pos 1) ≡ neg_ℤ f -ℤ pos 1 = omega (arith, ints) in same)

-- one less than a multiple, and one less than the next multiple of its negation
exactly : (c : ℤ) (n : ℕ) → 0 < n → is_multiple (pos n) c ≡ true → int_div_euclid c (pos n) *ℤ pos n ≡ c
exactly c n some whole_is =
    let above : pos 0 <ℤ pos n = omega (arith, ints, some) in
    let rest = quotient-rest c (pos n) above in
    let natural = rest-natural c (pos n) in
    let none = eqb-true (nat_abs (int_rem_euclid c (pos n))) 0 (multiple_where c n some ∙ whole_is) in
    omega (arith, ints, rest, natural, none)

just-below : (c : ℤ) (n : ℕ) → 0 < n → is_multiple (pos n) c ≡ true → int_div_euclid (neg_ℤ (neg_ℤ c +ℤ pos 1)) (pos n) ≡ int_div_euclid c (pos n) -ℤ pos 1
just-below c n some whole_is =
    let m = int_div_euclid c (pos n) in
    let whole = exactly c n some whole_is in
    let parts = +ℤ-*ℤ m (neg_ℤ (pos 1)) (pos n) in
    let one = turned (pos n) in
    let is = quotient_is (neg_ℤ (neg_ℤ c +ℤ pos 1)) (m +ℤ neg_ℤ (pos 1)) (pos n) (n - 1) (omega (arith, ints, some)) (omega (arith, ints, some, whole, parts, one)) (omega (arith, some)) in
    sym is ∙ (let same : m +ℤ neg_ℤ (pos 1) ≡ m -ℤ pos 1 = omega (arith, ints) in same)

just-above : (c : ℤ) (n : ℕ) → 0 < n → is_multiple (pos n) c ≡ true → int_div_euclid (neg_ℤ (c +ℤ (pos 1 -ℤ pos n))) (pos n) ≡ neg_ℤ (int_div_euclid c (pos n))
just-above c n some whole_is =
    let m = int_div_euclid c (pos n) in
    let whole = exactly c n some whole_is in
    let minus = neg_ℤ-*ℤ m (pos n) in
    sym (quotient_is (neg_ℤ (c +ℤ (pos 1 -ℤ pos n))) (neg_ℤ m) (pos n) (n - 1) (omega (arith, ints, some)) (omega (arith, ints, some, whole, minus)) (omega (arith, some)))

-- what stands behind
get-behind : {X : Type 0} (xs ys : List X) (i n : ℕ) → n ≡ length xs + i → slice_get (xs ++ ys) n ≡ slice_get ys i
get-behind [] ys i n e = ap (slice_get ys) (let same : n ≡ i = omega (arith, e) in same)
get-behind (x ∷ xs) ys i zero e = absurd (omega (arith, e))
get-behind (x ∷ xs) ys i (suc n) e = get-behind xs ys i n (omega (arith, e))

-- the results of two roundings add up to 1
pair-sound : (end : ℕ) (place : Place) (r s : Rounding) (k : ℕ) → length place.known ≡ k → may_round place.known r ≡ true → may_round place.known s ≡ true → ((point : List ℤ) → value_at point (linear_of (derived_by place.known r)) +ℤ value_at point (linear_of (derived_by place.known s)) ≡ pos 1)
    → IsSoundAt end place (under (r ∷ s ∷ []) (Leaf ((k, pos 1) ∷ (k + 1, pos 1) ∷ [])))
pair-sound end place r s k long first second sum =
    let known = place.known in
    let rs = r ∷ s ∷ [] in
    let all = known ++ derived known rs in
    let one : slice_get all k ≡ Some (derived_by known r) = get-behind known (derived known rs) 0 k (omega (arith, long)) in
    let two : slice_get all (k + 1) ≡ Some (derived_by known s) = get-behind known (derived known rs) 1 (k + 1) (omega (arith, long)) in
    let may : (i : ℕ) (lin : Linear) → slice_get all i ≡ Some (Le lin) → is_multiplier all (i, pos 1) ≡ true = λ i lin there. ap (λ o. is_short (pos 1) && option_map_or (may_be_multiplied (pos 1)) o false) there in
    let ms = (k, pos 1) ∷ (k + 1, pos 1) ∷ [] in
    let multipliers = and_from _ _ (may k (linear_of (derived_by known r)) one) (and_from _ _ (may (k + 1) (linear_of (derived_by known s)) two) refl) in
    let value : (point : List ℤ) → value_at point (combined all ms) ≡ pos 1 = λ point.
    let outer = value_at-added point (scaled (pos 1) (linear_at all k)) (combined all ((k + 1, pos 1) ∷ [])) in
    let inner = value_at-added point (scaled (pos 1) (linear_at all (k + 1))) (of_constant (pos 0)) in
    let left = value_at-scaled point (pos 1) (linear_at all k) ∙ once (value_at point (linear_at all k)) ∙ ap (value_at point) (found-linear all k (derived_by known r) one) in
    let right = value_at-scaled point (pos 1) (linear_at all (k + 1)) ∙ once (value_at point (linear_at all (k + 1))) ∙ ap (value_at point) (found-linear all (k + 1) (derived_by known s) two) in
    let both = sum point in
    omega (arith, ints, outer, inner, left, right, both) in
    sound-under end place rs (Leaf ms) (and_from _ _ first (and_from _ _ second refl)) (sound-leaf end (with_known place (derived known rs)) ms multipliers (above-everywhere all ms (pos 1) value refl))

-- c - n * q = 0 gives q at most c / n rounded down, and at least c / n rounded up
pub division-sound : (end : ℕ) (place : Place) (number n : ℕ) (c : ℤ) → is_multiple (pos n) c ≡ false → 0 < n → n < 2 ^ 63 → nat_abs c < 2 ^ 64 → slice_get place.known number ≡ Some (Div n (of_constant c)) → new_variable end place.known < 2 ^ 32 → IsSoundAt end place (Quotient number (summed_pair (length place.known) 1 (pos n)))
division-sound end place number n c not_so some small long there room =
    let q = new_variable end place.known in
    let first = length place.known in
    let a = neg_ℤ (pos n) in
    let lit = Eq (alone q a c) in
    let has : has_quotient place.known number q ≡ true = and_from _ _ (ap (λ o. option_map_or is_division o false) there ∙ lt-ltb 0 n some) (lt-ltb q (2 ^ 32) room) in
    let named : quotient_at place.known number q ≡ lit ∷ [] = ap (λ o. option_map_or (quotient q) o []) there in
    let same : nat_abs a ≡ n = omega (arith, ints) in
    let fit : list_all lit_fits (quotient_at place.known number q) ≡ true = ap (list_all lit_fits) named ∙ and_from _ _ (fits-alone q a c (omega (arith, same, small)) long) refl in
    let known = place.known ++ lit ∷ [] in
    let own = get-last place.known lit in
    let r : Rounding = record { number = first; sign = pos 1; divisor = pos n } in
    let s : Rounding = record { number = first; sign = neg_ℤ (pos 1); divisor = pos n } in
    let one = round-plain known first lit n q a c own refl refl some same small long in
    let two = round-turned known first n q a c own some same small long in
    let count : length known ≡ first + 1 = length-append place.known (lit ∷ []) in
    let sum : (point : List ℤ) → value_at point (linear_of (derived_by known r)) +ℤ value_at point (linear_of (derived_by known s)) ≡ pos 1 = λ point.
    let x = variable_at point q in
    let f = int_div_euclid c (pos n) in
    let low = ap (value_at point) one.1 ∙ rounded-value point n q a c (neg_ℤ (pos 1)) (neg_ℤ f -ℤ pos 1) (div-turned n some) (floors c n some not_so) in
    let high = ap (value_at point) two.1 ∙ rounded-value point n q (neg_ℤ a) (neg_ℤ c) (pos 1) f (div-twice n some) (ap (λ z. int_div_euclid z (pos n)) (let twice : neg_ℤ (neg_ℤ c) ≡ c = omega (arith, ints) in twice)) in
    let plain = once x in
    let minus = turned x in
    omega (arith, ints, low, high, plain, minus) in
    sound-quotient end place number (summed_pair first 1 (pos n)) has fit
    (subst (λ (ls : List Lit). IsSoundAt end (with_known place ls) (summed_pair first 1 (pos n))) (sym named) (pair-sound end (with_known place (lit ∷ [])) r s (first + 1) count one.0 two.0 sum))

-- where c = n * m, q is at most m - 1, and at least m
pub rest-sound : (end : ℕ) (place : Place) (number n : ℕ) (c : ℤ) → is_multiple (pos n) c ≡ true → 0 < n → n < 2 ^ 63 → nat_abs c < 2 ^ 63 → slice_get place.known number ≡ Some (NDiv n (of_constant c)) → new_variable end place.known < 2 ^ 32 → IsSoundAt end place (Quotient number (summed_pair (length place.known) 2 (pos n)))
rest-sound end place number n c whole_is some small long there room =
    let q = new_variable end place.known in
    let first = length place.known in
    let a = neg_ℤ (pos n) in
    let upper = Le (alone q (neg_ℤ a) (neg_ℤ c +ℤ pos 1)) in
    let lower = Le (alone q a (c +ℤ (pos 1 -ℤ pos n))) in
    let has : has_quotient place.known number q ≡ true = and_from _ _ (ap (λ o. option_map_or is_division o false) there ∙ lt-ltb 0 n some) (lt-ltb q (2 ^ 32) room) in
    let named : quotient_at place.known number q ≡ upper ∷ lower ∷ [] = ap (λ o. option_map_or (quotient q) o []) there in
    let same : nat_abs a ≡ n = omega (arith, ints) in
    let twice : nat_abs (neg_ℤ a) ≡ n = omega (arith, ints) in
    let up_long : nat_abs (neg_ℤ c +ℤ pos 1) < 2 ^ 64 = omega (arith, ints, long) in
    let low_long : nat_abs (c +ℤ (pos 1 -ℤ pos n)) < 2 ^ 64 = omega (arith, ints, long, small) in
    let fit : list_all lit_fits (quotient_at place.known number q) ≡ true =
    ap (list_all lit_fits) named ∙ and_from _ _ (fits-alone q (neg_ℤ a) (neg_ℤ c +ℤ pos 1) (omega (arith, twice, small)) up_long) (and_from _ _ (fits-alone q a (c +ℤ (pos 1 -ℤ pos n)) (omega (arith, same, small)) low_long) refl) in
    let known = place.known ++ upper ∷ lower ∷ [] in
    let r : Rounding = record { number = first; sign = pos 1; divisor = pos n } in
    let s : Rounding = record { number = first + 1; sign = pos 1; divisor = pos n } in
    let own : slice_get known first ≡ Some upper = get-behind place.known (upper ∷ lower ∷ []) 0 first (omega arith) in
    let next : slice_get known (first + 1) ≡ Some lower = get-behind place.known (upper ∷ lower ∷ []) 1 (first + 1) (omega arith) in
    let one = round-plain known first upper n q (neg_ℤ a) (neg_ℤ c +ℤ pos 1) own refl refl some twice small up_long in
    let two = round-plain known (first + 1) lower n q a (c +ℤ (pos 1 -ℤ pos n)) next refl refl some same small low_long in
    let count : length known ≡ first + 2 = length-append place.known (upper ∷ lower ∷ []) in
    let sum : (point : List ℤ) → value_at point (linear_of (derived_by known r)) +ℤ value_at point (linear_of (derived_by known s)) ≡ pos 1 = λ point.
    let x = variable_at point q in
    let m = int_div_euclid c (pos n) in
    let high = ap (value_at point) one.1 ∙ rounded-value point n q (neg_ℤ a) (neg_ℤ c +ℤ pos 1) (pos 1) (m -ℤ pos 1) (div-twice n some) (just-below c n some whole_is) in
    let low = ap (value_at point) two.1 ∙ rounded-value point n q a (c +ℤ (pos 1 -ℤ pos n)) (neg_ℤ (pos 1)) (neg_ℤ m) (div-turned n some) (just-above c n some whole_is) in
    let plain = once x in
    let minus = turned x in
    omega (arith, ints, low, high, plain, minus) in
    sound-quotient end place number (summed_pair first 2 (pos n)) has fit
    (subst (λ (ls : List Lit). IsSoundAt end (with_known place ls) (summed_pair first 2 (pos n))) (sym named) (pair-sound end (with_known place (upper ∷ lower ∷ [])) r s (first + 2) count one.0 two.0 sum))
