-- What a literal of one variable says of it, as a value.
use Rattle.std.proofs.Common.{◌≡◌, ℕ, zero, suc, List, [], ◌∷◌, length, refl, ap, sym, ◌∙◌, arith, true, false, Bool, cond, ◌==◌}
use Rattle.std.specs.Prelude.{ℤ, pos, negsuc, neg_ℤ, ◌-ℤ◌, nat_abs, int_lt, Option, None, Some}
use Rattle.std.specs.Option.{option_map, unwrap_or}
use Rattle.std.proofs.lemmas.Bool.{eqb-true, ne_eqb}
use Rattle.std.proofs.lemmas.Int.{ints}
use Rattle.lin_atoms.specs.Linear.{sum_at, value_at, variable_at}
use Rattle.lin_atoms.proofs.Public.{both_true, value_at-negated}
use Rattle.int_rows.specs.Node.{coefficient, is_on}
use Rattle.int_rows.specs.declared.bounds.Bounded.{Bounded}
use Rattle.int_rows.specs.declared.bounds.Ready.TheVariants.{Bounds}
use Rattle.lia_node.specs.machinery.Solved.{is_tidy, is_unit_alone, names_rise}
use Rattle.lia_node.proofs.HoldLemmas.{none-some, said_of}
use Rattle.lia_close.specs.declared.side.Side.{Side}
use Rattle.lia_close.specs.declared.side.Side.TheVariants.{Lower, Upper}
use Rattle.lia_close.specs.machinery.Taken.{bound_on, said}
use Rattle.lia_close.specs.machinery.Tightest.{side_above, side_below}

-- l - f, and f - u
pub said-low : (point : List ℤ) (b : Bounded) → b.form.constant ≡ pos 0 → value_at point (said Lower b) ≡ unwrap_or b.lower (pos 0) -ℤ sum_at point b.form.terms
said-low point b none = let negative = value_at-negated point b.form in omega (arith, ints, negative, none)

pub said-high : (point : List ℤ) (b : Bounded) → b.form.constant ≡ pos 0 → value_at point (said Upper b) ≡ sum_at point b.form.terms -ℤ unwrap_or b.upper (pos 0)
said-high point b none = omega (arith, ints, none)

turned-some : (o : Option ℤ) (l : ℤ) → option_map neg_ℤ o ≡ Some l → unwrap_or o (pos 0) ≡ neg_ℤ l
turned-some None l e = absurd (cc)
turned-some (Some k) l e = let same : neg_ℤ k ≡ l = cc in omega (arith, ints, same)

plain-some : (o : Option ℤ) (l : ℤ) → o ≡ Some l → unwrap_or o (pos 0) ≡ l
plain-some o l e = ap (λ (x : Option ℤ). unwrap_or x (pos 0)) e

one-value : (point : List ℤ) (x v : ℕ) → x ≡ v → sum_at point ((x, pos 1) ∷ []) ≡ variable_at point v
one-value point x v same = let value : sum_at point ((x, pos 1) ∷ []) ≡ variable_at point x = grind (arith, ints) in value ∙ ap (variable_at point) same

turned-value : (point : List ℤ) (x v : ℕ) → x ≡ v → sum_at point ((x, negsuc 0) ∷ []) ≡ neg_ℤ (variable_at point v)
turned-value point x v same = let value : sum_at point ((x, negsuc 0) ∷ []) ≡ neg_ℤ (variable_at point x) = grind (arith, ints) in value ∙ ap (λ (y : ℕ). neg_ℤ (variable_at point y)) same

-- the bound and its side, of the coefficients 1 and -1
pair-first : (o : Option ℤ) (s side : Side) (k : ℤ) → ◌≡◌ {A = Option ℤ × Side} (o, s) (Some k, side) → o ≡ Some k
pair-first o s side k e = ap (λ (p : Option ℤ × Side). p.0) e

pair-second : (o : Option ℤ) (s side : Side) (k : ℤ) → ◌≡◌ {A = Option ℤ × Side} (o, s) (Some k, side) → side ≡ s
pair-second o s side k e = sym (ap (λ (p : Option ℤ × Side). p.1) e)

plain-low : (point : List ℤ) (x v : ℕ) (c k : ℤ) (low high : Option ℤ) (side : Side) → c ≡ pos 0 → x ≡ v → ◌≡◌ {A = Option ℤ × Side} (low, Lower) (Some k, side) → value_at point (said side (said_of ((x, pos 1) ∷ []) c low high)) ≡ k -ℤ variable_at point v
plain-low point x v c k low high side none same e =
    let b = said_of ((x, pos 1) ∷ []) c low high in
    let number = plain-some low k (pair-first low Lower side k e) in
    let value = one-value point x v same in
    ap (λ (s : Side). value_at point (said s b)) (pair-second low Lower side k e) ∙ said-low point b none ∙ ap (λ z. z -ℤ sum_at point ((x, pos 1) ∷ [])) number ∙ ap (λ z. k -ℤ z) value

turned-low : (point : List ℤ) (x v : ℕ) (c k : ℤ) (low high : Option ℤ) (side : Side) → c ≡ pos 0 → x ≡ v → ◌≡◌ {A = Option ℤ × Side} (option_map neg_ℤ high, Upper) (Some k, side) → value_at point (said side (said_of ((x, negsuc 0) ∷ []) c low high)) ≡ k -ℤ variable_at point v
turned-low point x v c k low high side none same e =
    let b = said_of ((x, negsuc 0) ∷ []) c low high in
    let number = turned-some high k (pair-first (option_map neg_ℤ high) Upper side k e) in
    let value = turned-value point x v same in
    ap (λ (s : Side). value_at point (said s b)) (pair-second (option_map neg_ℤ high) Upper side k e) ∙ said-high point b none ∙ ap (λ z. z -ℤ unwrap_or high (pos 0)) value ∙ ap (λ z. neg_ℤ (variable_at point v) -ℤ z) number ∙ (let e : neg_ℤ (variable_at point v) -ℤ neg_ℤ k ≡ k -ℤ variable_at point v = omega (arith, ints) in e)

plain-high : (point : List ℤ) (x v : ℕ) (c k : ℤ) (low high : Option ℤ) (side : Side) → c ≡ pos 0 → x ≡ v → ◌≡◌ {A = Option ℤ × Side} (high, Upper) (Some k, side) → value_at point (said side (said_of ((x, pos 1) ∷ []) c low high)) ≡ variable_at point v -ℤ k
plain-high point x v c k low high side none same e =
    let b = said_of ((x, pos 1) ∷ []) c low high in
    let number = plain-some high k (pair-first high Upper side k e) in
    let value = one-value point x v same in
    ap (λ (s : Side). value_at point (said s b)) (pair-second high Upper side k e) ∙ said-high point b none ∙ ap (λ z. z -ℤ unwrap_or high (pos 0)) value ∙ ap (λ z. variable_at point v -ℤ z) number

turned-high : (point : List ℤ) (x v : ℕ) (c k : ℤ) (low high : Option ℤ) (side : Side) → c ≡ pos 0 → x ≡ v → ◌≡◌ {A = Option ℤ × Side} (option_map neg_ℤ low, Lower) (Some k, side) → value_at point (said side (said_of ((x, negsuc 0) ∷ []) c low high)) ≡ variable_at point v -ℤ k
turned-high point x v c k low high side none same e =
    let b = said_of ((x, negsuc 0) ∷ []) c low high in
    let number = turned-some low k (pair-first (option_map neg_ℤ low) Lower side k e) in
    let value = turned-value point x v same in
    ap (λ (s : Side). value_at point (said s b)) (pair-second (option_map neg_ℤ low) Lower side k e) ∙ said-low point b none ∙ ap (λ z. z -ℤ sum_at point ((x, negsuc 0) ∷ [])) number ∙ ap (λ z. neg_ℤ k -ℤ z) value ∙ (let e : neg_ℤ k -ℤ neg_ℤ (variable_at point v) ≡ variable_at point v -ℤ k = omega (arith, ints) in e)

-- one term
one-low : (point : List ℤ) (x v : ℕ) (a c k : ℤ) (low high : Option ℤ) (side : Side) → c ≡ pos 0 → (nat_abs a == 1) ≡ true → (x == v) ≡ true → side_below v (Bounds (said_of ((x, a) ∷ []) c low high)) ≡ (Some k, side)
    → value_at point (said side (said_of ((x, a) ∷ []) c low high)) ≡ k -ℤ variable_at point v
one-low point x v (pos zero) c k low high side none one same e = absurd (let bad = eqb-true 0 1 one in omega (arith, bad))
one-low point x v (pos (suc zero)) c k low high side none one same e =
    let first : side_below v (Bounds (said_of ((x, pos 1) ∷ []) c low high)) ≡ (low, Lower) = rw same refl in
    plain-low point x v c k low high side none (eqb-true x v same) (sym first ∙ e)
one-low point x v (pos (suc (suc n))) c k low high side none one same e = absurd (let bad = eqb-true (suc (suc n)) 1 one in omega (arith, bad))
one-low point x v (negsuc zero) c k low high side none one same e =
    let first : side_below v (Bounds (said_of ((x, negsuc 0) ∷ []) c low high)) ≡ (option_map neg_ℤ high, Upper) = rw same refl in
    turned-low point x v c k low high side none (eqb-true x v same) (sym first ∙ e)
one-low point x v (negsuc (suc n)) c k low high side none one same e = absurd (let bad = eqb-true (suc (suc n)) 1 one in omega (arith, bad))

one-high : (point : List ℤ) (x v : ℕ) (a c k : ℤ) (low high : Option ℤ) (side : Side) → c ≡ pos 0 → (nat_abs a == 1) ≡ true → (x == v) ≡ true → side_above v (Bounds (said_of ((x, a) ∷ []) c low high)) ≡ (Some k, side)
    → value_at point (said side (said_of ((x, a) ∷ []) c low high)) ≡ variable_at point v -ℤ k
one-high point x v (pos zero) c k low high side none one same e = absurd (let bad = eqb-true 0 1 one in omega (arith, bad))
one-high point x v (pos (suc zero)) c k low high side none one same e =
    let first : side_above v (Bounds (said_of ((x, pos 1) ∷ []) c low high)) ≡ (high, Upper) = rw same refl in
    plain-high point x v c k low high side none (eqb-true x v same) (sym first ∙ e)
one-high point x v (pos (suc (suc n))) c k low high side none one same e = absurd (let bad = eqb-true (suc (suc n)) 1 one in omega (arith, bad))
one-high point x v (negsuc zero) c k low high side none one same e =
    let first : side_above v (Bounds (said_of ((x, negsuc 0) ∷ []) c low high)) ≡ (option_map neg_ℤ low, Lower) = rw same refl in
    turned-high point x v c k low high side none (eqb-true x v same) (sym first ∙ e)
one-high point x v (negsuc (suc n)) c k low high side none one same e = absurd (let bad = eqb-true (suc (suc n)) 1 one in omega (arith, bad))

-- another variable gets no bound
at-low : (point : List ℤ) (x v : ℕ) (a c k : ℤ) (low high : Option ℤ) (side : Side) (b : Bool) → (x == v) ≡ b → c ≡ pos 0 → (nat_abs a == 1) ≡ true → side_below v (Bounds (said_of ((x, a) ∷ []) c low high)) ≡ (Some k, side)
    → value_at point (said side (said_of ((x, a) ∷ []) c low high)) ≡ k -ℤ variable_at point v
at-low point x v a c k low high side true same none one e = one-low point x v a c k low high side none one same e
at-low point x v a c k low high side false same none one e =
    let nothing : side_below v (Bounds (said_of ((x, a) ∷ []) c low high)) ≡ (None, Lower) = rw same refl in
    absurd (none-some k (pair-first None Lower side k (sym nothing ∙ e)))

at-high : (point : List ℤ) (x v : ℕ) (a c k : ℤ) (low high : Option ℤ) (side : Side) (b : Bool) → (x == v) ≡ b → c ≡ pos 0 → (nat_abs a == 1) ≡ true → side_above v (Bounds (said_of ((x, a) ∷ []) c low high)) ≡ (Some k, side)
    → value_at point (said side (said_of ((x, a) ∷ []) c low high)) ≡ variable_at point v -ℤ k
at-high point x v a c k low high side true same none one e = one-high point x v a c k low high side none one same e
at-high point x v a c k low high side false same none one e =
    let nothing : side_above v (Bounds (said_of ((x, a) ∷ []) c low high)) ≡ (None, Upper) = rw same refl in
    absurd (none-some k (pair-first None Upper side k (sym nothing ∙ e)))

terms-low : (point : List ℤ) (v : ℕ) (ts : List (ℕ × ℤ)) (c k : ℤ) (low high : Option ℤ) (side : Side) → c ≡ pos 0 → is_unit_alone ts ≡ true → side_below v (Bounds (said_of ts c low high)) ≡ (Some k, side)
    → value_at point (said side (said_of ts c low high)) ≡ k -ℤ variable_at point v
terms-low point v [] c k low high side none unit e = absurd (cc)
terms-low point v (t ∷ []) c k low high side none unit e = at-low point t.0 v t.1 c k low high side (t.0 == v) refl none unit e
terms-low point v (t ∷ u ∷ ts) c k low high side none unit e =
    let many : (length (t ∷ u ∷ ts) == 1) ≡ false = ne_eqb (length (t ∷ u ∷ ts)) 1 (λ e. absurd (omega (arith, e))) in
    let nothing : side_below v (Bounds (said_of (t ∷ u ∷ ts) c low high)) ≡ (None, Lower) = rw many refl in
    absurd (none-some k (pair-first None Lower side k (sym nothing ∙ e)))

terms-high : (point : List ℤ) (v : ℕ) (ts : List (ℕ × ℤ)) (c k : ℤ) (low high : Option ℤ) (side : Side) → c ≡ pos 0 → is_unit_alone ts ≡ true → side_above v (Bounds (said_of ts c low high)) ≡ (Some k, side)
    → value_at point (said side (said_of ts c low high)) ≡ variable_at point v -ℤ k
terms-high point v [] c k low high side none unit e = absurd (cc)
terms-high point v (t ∷ []) c k low high side none unit e = at-high point t.0 v t.1 c k low high side (t.0 == v) refl none unit e
terms-high point v (t ∷ u ∷ ts) c k low high side none unit e =
    let many : (length (t ∷ u ∷ ts) == 1) ≡ false = ne_eqb (length (t ∷ u ∷ ts)) 1 (λ e. absurd (omega (arith, e))) in
    let nothing : side_above v (Bounds (said_of (t ∷ u ∷ ts) c low high)) ≡ (None, Upper) = rw many refl in
    absurd (none-some k (pair-first None Upper side k (sym nothing ∙ e)))

pub lone-low : (point : List ℤ) (v : ℕ) (b : Bounded) (k : ℤ) (side : Side) → b.form.constant ≡ pos 0 → is_tidy b ≡ true → side_below v (Bounds b) ≡ (Some k, side) → value_at point (said side b) ≡ k -ℤ variable_at point v
lone-low point v b k side none tidy e = terms-low point v b.form.terms b.form.constant k b.lower b.upper side none (both_true (names_rise 0 b.form.terms) _ tidy).1 e

pub lone-high : (point : List ℤ) (v : ℕ) (b : Bounded) (k : ℤ) (side : Side) → b.form.constant ≡ pos 0 → is_tidy b ≡ true → side_above v (Bounds b) ≡ (Some k, side) → value_at point (said side b) ≡ variable_at point v -ℤ k
lone-high point v b k side none tidy e = terms-high point v b.form.terms b.form.constant k b.lower b.upper side none (both_true (names_rise 0 b.form.terms) _ tidy).1 e

-- the bound is the literal's own on that side
minus-some : (o : Option ℤ) (k : ℤ) → option_map neg_ℤ o ≡ Some k → o ≡ Some (neg_ℤ k)
minus-some None k e = absurd (cc)
minus-some (Some l) k e = ap Some (let same : neg_ℤ l ≡ k = cc in let turned : l ≡ neg_ℤ k = omega (arith, ints, same) in turned)

low-number : (c d : Bool) (b : Bounded) (k : ℤ) (side : Side) → ◌≡◌ {A = Option ℤ × Side} (cond c (cond d (b.lower, Lower) (option_map neg_ℤ b.upper, Upper)) (None, Lower)) (Some k, side) → (n : ℤ) × (bound_on side b ≡ Some n)
low-number true true b k side e = (k, ap (λ (s : Side). bound_on s b) (pair-second b.lower Lower side k e) ∙ pair-first b.lower Lower side k e)
low-number true false b k side e = (neg_ℤ k, ap (λ (s : Side). bound_on s b) (pair-second (option_map neg_ℤ b.upper) Upper side k e) ∙ minus-some b.upper k (pair-first (option_map neg_ℤ b.upper) Upper side k e))
low-number false d b k side e = absurd (none-some k (pair-first None Lower side k e))

high-number : (c d : Bool) (b : Bounded) (k : ℤ) (side : Side) → ◌≡◌ {A = Option ℤ × Side} (cond c (cond d (b.upper, Upper) (option_map neg_ℤ b.lower, Lower)) (None, Upper)) (Some k, side) → (n : ℤ) × (bound_on side b ≡ Some n)
high-number true true b k side e = (k, ap (λ (s : Side). bound_on s b) (pair-second b.upper Upper side k e) ∙ pair-first b.upper Upper side k e)
high-number true false b k side e = (neg_ℤ k, ap (λ (s : Side). bound_on s b) (pair-second (option_map neg_ℤ b.lower) Lower side k e) ∙ minus-some b.lower k (pair-first (option_map neg_ℤ b.lower) Lower side k e))
high-number false d b k side e = absurd (none-some k (pair-first None Upper side k e))

pub below-number : (v : ℕ) (b : Bounded) (k : ℤ) (side : Side) → side_below v (Bounds b) ≡ (Some k, side) → (n : ℤ) × (bound_on side b ≡ Some n)
below-number v b k side e = low-number (is_on v b) (int_lt (pos 0) (coefficient b.form.terms v)) b k side e

pub above-number : (v : ℕ) (b : Bounded) (k : ℤ) (side : Side) → side_above v (Bounds b) ≡ (Some k, side) → (n : ℤ) × (bound_on side b ≡ Some n)
above-number v b k side e = high-number (is_on v b) (int_lt (pos 0) (coefficient b.form.terms v)) b k side e
