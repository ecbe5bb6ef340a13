-- A literal with a content above 1 gives a bound by a rounding, which is legal and has room.
use Rattle.std.proofs.Common.{◌≡◌, ℕ, zero, suc, ◌<◌, ◌≤◌, List, [], ◌∷◌, map, length, nat_abs, refl, ap, sym, ◌∙◌, subst, arith, true, false, ◌&&◌, Some}
use Rattle.std.specs.Prelude.{◌^◌, ℤ, pos, negsuc, neg_ℤ, int_le, slice_get}
use Rattle.std.specs.Int.{int_div_euclid, ◌∣◌}
use Rattle.std.specs.List.{list_all}
use Rattle.std.specs.Option.{option_map_or}
use Rattle.std.proofs.Math.Nat.{div-le_self}
use Rattle.std.proofs.lemmas.Bool.{and_from, eq-eqb, lt-ltb, ltb-true}
use Rattle.std.proofs.lemmas.Int.{ints}
use Rattle.std.proofs.lemmas.Nat.Gcd.{mod-eq-zero_of_dvd}
use Rattle.lin_atoms.specs.Algebra.{negated, negated_terms}
use Rattle.lin_atoms.specs.Denial.{linear_of, lit_fits}
use Rattle.lin_atoms.specs.Linear.{Linear, are_ordered, are_short, fits, is_linear, is_short, value_at}
use Rattle.lin_atoms.specs.Multiples.{is_multiple}
use Rattle.lin_atoms.specs.declared.lit.Lit.{Lit}
use Rattle.lin_atoms.specs.declared.lit.Lit.TheVariants.{Le, Eq}
use Rattle.lin_atoms.proofs.Public.{both_true}
use Rattle.int_rows.specs.Ready.{bounded, lin_content, rounded}
use Rattle.int_rows.proofs.ContentLemmas.{Divides, coefficients-divided}
use Rattle.int_rows.proofs.ReadyLemmas.{true-le}
use Rattle.refutation_trees.specs.Combination.{combined, is_divided_by, is_multiplier, linear_at, may_be_multiplied}
use Rattle.lia_close.specs.declared.leaf.Rounding.{Rounding}
use Rattle.lia_close.specs.declared.side.Side.TheVariants.{Lower, Upper}
use Rattle.lia_close.specs.machinery.Closing.{derived_by, may_round}
use Rattle.lia_close.specs.machinery.Taken.{said}
use Rattle.lia_close.proofs.SideLemmas.{combined-once, combined-turned, least-said, most-said}

-- a quotient rounded down is no greater in magnitude
smaller : (a : ℤ) (g : ℕ) → nat_abs (int_div_euclid a (pos g)) ≤ nat_abs a
smaller (pos a) g = div-le_self a g
smaller (negsuc a) g = let less = div-le_self a g in omega (arith, less)

divided-fits : (g : ℕ) (ts : List (ℕ × ℤ)) → are_short ts ≡ true → are_short (map (λ t. (t.0, int_div_euclid t.1 (pos g))) ts) ≡ true
divided-fits g [] h = refl
divided-fits g (t ∷ ts) h =
    let both = both_true (is_short t.1) _ h in
    let small = ltb-true _ _ both.0 in
    let less = smaller t.1 g in
    and_from _ _ (lt-ltb _ _ (omega (arith, small, less))) (divided-fits g ts both.1)

pub rounded-fits : (g : ℕ) (lin : Linear) → fits lin ≡ true → fits (rounded (pos g) lin) ≡ true
rounded-fits g lin h =
    let both = both_true (are_short lin.terms) _ h in
    let small : nat_abs lin.constant < 2 ^ 64 = ltb-true _ _ both.1 in
    let less = smaller (neg_ℤ lin.constant) g in
    let long : nat_abs (rounded (pos g) lin).constant < 2 ^ 64 = omega (arith, ints, small, less) in
    and_from _ _ (divided-fits g lin.terms both.0) (lt-ltb _ _ long)

turned-short : (ts : List (ℕ × ℤ)) → are_short ts ≡ true → are_short (negated_terms ts) ≡ true
turned-short [] h = refl
turned-short (t ∷ ts) h =
    let both = both_true (is_short t.1) _ h in
    let small = ltb-true _ _ both.0 in
    and_from _ _ (lt-ltb _ _ (omega (arith, ints, small))) (turned-short ts both.1)

negated-fits : (lin : Linear) → fits lin ≡ true → fits (negated lin) ≡ true
negated-fits lin h =
    let both = both_true (are_short lin.terms) _ h in
    let small : nat_abs lin.constant < 2 ^ 64 = ltb-true _ _ both.1 in
    let long : nat_abs (neg_ℤ lin.constant) < 2 ^ 64 = omega (arith, ints, small) in
    and_from _ _ (turned-short lin.terms both.0) (lt-ltb _ _ long)

-- the content divides each coefficient
all-multiples : (g : ℕ) (ts : List (ℕ × ℤ)) → Divides g (map (λ t. t.1) ts) → list_all (λ t. is_multiple (pos g) t.1) ts ≡ true
all-multiples g [] h = refl
all-multiples g (t ∷ ts) h = and_from _ _ (eq-eqb _ _ (mod-eq-zero_of_dvd g h.0)) (all-multiples g ts h.1)

turned-multiples : (g : ℕ) (ts : List (ℕ × ℤ)) → Divides g (map (λ t. t.1) ts) → list_all (λ t. is_multiple (pos g) t.1) (negated_terms ts) ≡ true
turned-multiples g [] h = refl
turned-multiples g (t ∷ ts) h =
    let same : nat_abs (neg_ℤ t.1) ≡ nat_abs t.1 = omega (arith, ints) in
    and_from _ _ (eq-eqb _ _ (mod-eq-zero_of_dvd g (subst (λ (n : ℕ). g ∣ n) (sym same) h.0))) (turned-multiples g ts h.1)

pub found-linear : (known : List Lit) (i : ℕ) (lit : Lit) → slice_get known i ≡ Some lit → linear_at known i ≡ linear_of lit
found-linear [] i lit e = absurd (cc)
found-linear (l ∷ known) zero lit e = cc
found-linear (l ∷ known) (suc i) lit e = found-linear known i lit e

-- a rounding of a form that is the one literal's, with a sign
pub legal-round : (known : List Lit) (r : Rounding) (lin : Linear) → is_multiplier known (r.number, r.sign) ≡ true → combined known ((r.number, r.sign) ∷ []) ≡ lin → int_le (pos 1) r.divisor ≡ true → is_divided_by r.divisor lin ≡ true → fits (rounded r.divisor lin) ≡ true → may_round known r ≡ true
legal-round known r lin legal is positive divides room =
    and_from _ _ legal (subst (λ (l : Linear). ((int_le (pos 1) r.divisor && is_divided_by r.divisor l) && lit_fits (Le (rounded r.divisor l))) ≡ true) (sym is) (and_from _ _ (and_from _ _ positive divides) room))

-- the bound from above
pub upper-round : (known : List Lit) (number : ℕ) (lit : Lit) (point : List ℤ) → slice_get known number ≡ Some lit → may_be_multiplied (pos 1) lit ≡ true → is_linear (linear_of lit) ≡ true → 0 < length (linear_of lit).terms
    → let r : Rounding = record { number = number; sign = pos 1; divisor = pos (lin_content (linear_of lit)) } in (may_round known r ≡ true) × (value_at point (linear_of (derived_by known r)) ≡ value_at point (said Upper (bounded 0 (Le (linear_of lit)))))
upper-round known number lit point there may linear some =
    let lin = linear_of lit in
    let g = lin_content lin in
    let parts = both_true (are_ordered 0 lin.terms) _ linear in
    let divided = coefficients-divided lin some parts.0 in
    let is = combined-once known number lin (found-linear known number lit there) parts.0 in
    let legal : is_multiplier known (number, pos 1) ≡ true = ap (λ o. is_short (pos 1) && option_map_or (may_be_multiplied (pos 1)) o false) there ∙ may in
    let r : Rounding = record { number = number; sign = pos 1; divisor = pos g } in (
      legal-round known r lin legal is (true-le (pos 1) (pos g) (let positive = divided.0 in omega (arith, ints, positive))) (all-multiples g lin.terms divided.1) (rounded-fits g lin parts.1),
      ap (λ (l : Linear). value_at point (rounded (pos g) l)) is ∙ sym (most-said point lin),
    )

-- the bound of an equation from below
pub lower-round : (known : List Lit) (number : ℕ) (lin : Linear) (point : List ℤ) → slice_get known number ≡ Some (Eq lin) → is_linear lin ≡ true → 0 < length lin.terms
    → let r : Rounding = record { number = number; sign = neg_ℤ (pos 1); divisor = pos (lin_content lin) } in (may_round known r ≡ true) × (value_at point (linear_of (derived_by known r)) ≡ value_at point (said Lower (bounded 0 (Eq lin))))
lower-round known number lin point there linear some =
    let g = lin_content lin in
    let parts = both_true (are_ordered 0 lin.terms) _ linear in
    let divided = coefficients-divided lin some parts.0 in
    let is = combined-turned known number lin (found-linear known number (Eq lin) there) parts.0 in
    let legal : is_multiplier known (number, neg_ℤ (pos 1)) ≡ true = ap (λ o. is_short (neg_ℤ (pos 1)) && option_map_or (may_be_multiplied (neg_ℤ (pos 1))) o false) there in
    let r : Rounding = record { number = number; sign = neg_ℤ (pos 1); divisor = pos g } in (
      legal-round known r (negated lin) legal is (true-le (pos 1) (pos g) (let positive = divided.0 in omega (arith, ints, positive))) (turned-multiples g lin.terms divided.1) (rounded-fits g (negated lin) (negated-fits lin parts.1)),
      ap (λ (l : Linear). value_at point (rounded (pos g) l)) is ∙ sym (least-said point lin parts.0 some),
    )
