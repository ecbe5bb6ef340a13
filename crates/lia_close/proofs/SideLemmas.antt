-- Which literal gives a bound, with which sign, as it stands or divided and rounded.
use Rattle.std.proofs.Common.{◌≡◌, ℕ, ◌+◌, ◌<◌, List, [], ◌∷◌, ◌++◌, map, length, nat_abs, refl, ap, sym, ◌∙◌, arith, append-nil, true, Some}
use Rattle.std.specs.Prelude.{ℤ, pos, neg_ℤ, ◌+ℤ◌, ◌-ℤ◌, ◌*ℤ◌, ◌<ℤ◌, slice_get}
use Rattle.std.specs.Int.{int_div_euclid, ◌∣◌}
use Rattle.std.proofs.lemmas.Int.{ints}
use Rattle.base.proofs.Public.{neg_ℤ-*ℤ}
use Rattle.lin_atoms.specs.Algebra.{collected, negated, negated_terms, plus, scaled_terms, term_on}
use Rattle.lin_atoms.specs.Denial.{linear_of}
use Rattle.lin_atoms.specs.Linear.{Linear, are_ordered, sum_at, value_at}
use Rattle.lin_atoms.specs.declared.lit.Lit.{Lit}
use Rattle.lin_atoms.specs.declared.lit.Lit.TheVariants.{Le, Eq, Div, NDiv}
use Rattle.lin_atoms.proofs.Public.{collected-same, exact_quotient, ordered, quotient_is, scaled-ordered, term_on-whole, value_at-negated}
use Rattle.int_rows.specs.Ready.{bounded, less_multiple, lin_content, rounded, without_constant}
use Rattle.int_rows.proofs.ContentLemmas.{Divides, coefficients-divided}
use Rattle.refutation_trees.specs.Combination.{combined, linear_at, one_minus}
use Rattle.refutation_trees.proofs.ValueLemmas.{value_at-one_minus}
use Rattle.lia_close.specs.Said.{said_by}
use Rattle.lia_close.specs.declared.side.Side.{Side}
use Rattle.lia_close.specs.declared.side.Side.TheVariants.{Lower, Upper}
use Rattle.lia_close.specs.machinery.Closing.{divisor_of, multiplier_of}
use Rattle.lia_close.specs.machinery.Taken.{bound_on, said}

pub once : (z : ℤ) → pos 1 *ℤ z ≡ z
once z = grind (arith, ints)

pub turned : (z : ℤ) → neg_ℤ (pos 1) *ℤ z ≡ neg_ℤ z
turned z = grind (arith, ints)

-- 1 divides each number, and leaves it as it is
div-one : (a : ℤ) → int_div_euclid a (pos 1) ≡ a
div-one a = sym (quotient_is a a (pos 1) 0 (omega (arith, ints)) (grind (arith, ints)) (omega arith))

terms-one : (ts : List (ℕ × ℤ)) → map (λ t. (t.0, int_div_euclid t.1 (pos 1))) ts ≡ ts
terms-one [] = refl
terms-one (t ∷ ts) = ap (λ (a : ℤ). (t.0, a) ∷ map (λ t. (t.0, int_div_euclid t.1 (pos 1))) ts) (div-one t.1) ∙ ap (λ (us : List (ℕ × ℤ)). t ∷ us) (terms-one ts)

pub rounded-one : (lin : Linear) → rounded (pos 1) lin ≡ lin
rounded-one lin =
    let turned_twice : neg_ℤ (int_div_euclid (neg_ℤ lin.constant) (pos 1)) ≡ lin.constant = let one = div-one (neg_ℤ lin.constant) in omega (arith, ints, one) in
    ap (λ (ts : List (ℕ × ℤ)). record { terms = ts; constant = neg_ℤ (int_div_euclid (neg_ℤ lin.constant) (pos 1)) }) (terms-one lin.terms)
    ∙ ap (λ (k : ℤ). record { terms = lin.terms; constant = k }) turned_twice

-- one literal with either sign, as a sum
scaled-once : (from : ℕ) (ts : List (ℕ × ℤ)) → are_ordered from ts ≡ true → scaled_terms (pos 1) ts ≡ ts
scaled-once from [] is = refl
scaled-once from (t ∷ ts) is =
    let parts = ordered from t ts is in
    ap (λ (a : ℤ). term_on t.0 a (scaled_terms (pos 1) ts)) (once t.1) ∙ ap (term_on t.0 t.1) (scaled-once (t.0 + 1) ts parts.rest) ∙ term_on-whole t.0 t.1 ts parts.whole

scaled-turned : (from : ℕ) (ts : List (ℕ × ℤ)) → are_ordered from ts ≡ true → scaled_terms (neg_ℤ (pos 1)) ts ≡ negated_terms ts
scaled-turned from [] is = refl
scaled-turned from (t ∷ ts) is =
    let parts = ordered from t ts is in
    ap (λ (a : ℤ). term_on t.0 a (scaled_terms (neg_ℤ (pos 1)) ts)) (turned t.1) ∙ ap (term_on t.0 (neg_ℤ t.1)) (scaled-turned (t.0 + 1) ts parts.rest)
    ∙ term_on-whole t.0 (neg_ℤ t.1) (negated_terms ts) (let whole = parts.whole in omega (arith, ints, whole))

collected-alone : (k : ℤ) (ts : List (ℕ × ℤ)) → are_ordered 0 ts ≡ true → collected (scaled_terms k ts ++ []) ≡ scaled_terms k ts
collected-alone k ts is = ap collected (append-nil (scaled_terms k ts)) ∙ collected-same 0 (scaled_terms k ts) (scaled-ordered k 0 ts is)

pub combined-once : (lits : List Lit) (i : ℕ) (lin : Linear) → linear_at lits i ≡ lin → are_ordered 0 lin.terms ≡ true → combined lits ((i, pos 1) ∷ []) ≡ lin
combined-once lits i lin e is =
    let constant : pos 1 *ℤ lin.constant +ℤ pos 0 ≡ lin.constant = let one = once lin.constant in omega (arith, ints, one) in
    ap (λ (l : Linear). record { terms = collected (scaled_terms (pos 1) l.terms ++ []); constant = pos 1 *ℤ l.constant +ℤ pos 0 }) e
    ∙ ap (λ (ts : List (ℕ × ℤ)). record { terms = ts; constant = pos 1 *ℤ lin.constant +ℤ pos 0 }) (collected-alone (pos 1) lin.terms is ∙ scaled-once 0 lin.terms is)
    ∙ ap (λ (k : ℤ). record { terms = lin.terms; constant = k }) constant

pub combined-turned : (lits : List Lit) (i : ℕ) (lin : Linear) → linear_at lits i ≡ lin → are_ordered 0 lin.terms ≡ true → combined lits ((i, neg_ℤ (pos 1)) ∷ []) ≡ negated lin
combined-turned lits i lin e is =
    let constant : neg_ℤ (pos 1) *ℤ lin.constant +ℤ pos 0 ≡ neg_ℤ lin.constant = let one = turned lin.constant in omega (arith, ints, one) in
    ap (λ (l : Linear). record { terms = collected (scaled_terms (neg_ℤ (pos 1)) l.terms ++ []); constant = neg_ℤ (pos 1) *ℤ l.constant +ℤ pos 0 }) e
    ∙ ap (λ (ts : List (ℕ × ℤ)). record { terms = ts; constant = neg_ℤ (pos 1) *ℤ lin.constant +ℤ pos 0 }) (collected-alone (neg_ℤ (pos 1)) lin.terms is ∙ scaled-turned 0 lin.terms is)
    ∙ ap (λ (k : ℤ). record { terms = negated_terms lin.terms; constant = k }) constant

-- the literal that gives a bound
abbrev pub giving : ℕ → Lit → Side → Lit
giving q (Le lin) side = Le lin
giving q (Eq lin) side = Eq lin
giving q (Div n lin) side = Eq (less_multiple n q lin)
giving q (NDiv n lin) Lower = Le (one_minus (less_multiple n q lin))
giving q (NDiv n lin) Upper = Le (plus (less_multiple n q lin) (pos 1 -ℤ pos n))

pub giving-there : (q : ℕ) (lit : Lit) (side : Side) → slice_get (said_by q lit) (multiplier_of lit side).0 ≡ Some (giving q lit side)
giving-there q (Le lin) side = refl
giving-there q (Eq lin) Lower = refl
giving-there q (Eq lin) Upper = refl
giving-there q (Div n lin) Lower = refl
giving-there q (Div n lin) Upper = refl
giving-there q (NDiv n lin) Lower = refl
giving-there q (NDiv n lin) Upper = refl

-- of content 1: the form itself
one-most : (point : List ℤ) (lin : Linear) → lin_content lin ≡ 1 → value_at point lin ≡ value_at point (rounded (pos (lin_content lin)) lin)
one-most point lin one = sym (ap (λ (n : ℕ). value_at point (rounded (pos n) lin)) one ∙ ap (value_at point) (rounded-one lin))

one-least : (point : List ℤ) (lin : Linear) → lin_content lin ≡ 1 → value_at point (negated lin) ≡ value_at point (rounded (pos (lin_content lin)) (negated lin))
one-least point lin one = sym (ap (λ (n : ℕ). value_at point (rounded (pos n) (negated lin))) one ∙ ap (value_at point) (rounded-one (negated lin)))

-- the bound from above says what the rounding of the form says
pub most-said : (point : List ℤ) (lin : Linear) → value_at point (said Upper (bounded 0 (Le lin))) ≡ value_at point (rounded (pos (lin_content lin)) lin)
most-said point lin = let s = sum_at point (rounded (pos (lin_content lin)) lin).terms in omega (arith, ints)

turned-quotient : (a : ℤ) (g : ℕ) → 0 < g → g ∣ nat_abs a → int_div_euclid (neg_ℤ a) (pos g) ≡ neg_ℤ (int_div_euclid a (pos g))
turned-quotient a g some divides =
    let q = int_div_euclid a (pos g) in
    let above : pos 0 <ℤ pos g = omega (arith, ints, some) in
    let exact = exact_quotient a (pos g) above divides in
    let minus = neg_ℤ-*ℤ q (pos g) in
    sym (quotient_is (neg_ℤ a) (neg_ℤ q) (pos g) 0 above (omega (arith, ints, exact, minus)) (omega (arith, some)))

terms-turned : (g : ℕ) (ts : List (ℕ × ℤ)) → 0 < g → Divides g (map (λ t. t.1) ts) → map (λ t. (t.0, int_div_euclid t.1 (pos g))) (negated_terms ts) ≡ negated_terms (map (λ t. (t.0, int_div_euclid t.1 (pos g))) ts)
terms-turned g [] some h = refl
terms-turned g (t ∷ ts) some h =
    ap (λ (a : ℤ). (t.0, a) ∷ map (λ t. (t.0, int_div_euclid t.1 (pos g))) (negated_terms ts)) (turned-quotient t.1 g some h.0)
    ∙ ap (λ (us : List (ℕ × ℤ)). (t.0, neg_ℤ (int_div_euclid t.1 (pos g))) ∷ us) (terms-turned g ts some h.1)

-- and that from below what the rounding of its negation says; the coefficients are divided without rest
pub least-said : (point : List ℤ) (lin : Linear) → are_ordered 0 lin.terms ≡ true → 0 < length lin.terms → value_at point (said Lower (bounded 0 (Eq lin))) ≡ value_at point (rounded (pos (lin_content lin)) (negated lin))
least-said point lin is some =
    let g = lin_content lin in
    let divided = coefficients-divided lin some is in
    let same = ap (sum_at point) (terms-turned g lin.terms divided.0 divided.1) in
    omega (arith, ints, same)

-- a literal that isn't divided gives the bound itself
pub plain-bound : (q : ℕ) (lit : Lit) (side : Side) (point : List ℤ) (number : ℤ) → are_ordered 0 (linear_of lit).terms ≡ true → 0 < length (linear_of lit).terms → divisor_of lit ≡ 1 → bound_on side (bounded q lit) ≡ Some number
    → (multiplier_of lit side).1 *ℤ value_at point (linear_of (giving q lit side)) ≡ value_at point (said side (bounded q lit))
plain-bound q (Le lin) Lower point number is some one e = absurd (cc)
plain-bound q (Le lin) Upper point number is some one e = once (value_at point lin) ∙ one-most point lin one ∙ sym (most-said point lin)
plain-bound q (Eq lin) Upper point number is some one e = once (value_at point lin) ∙ one-most point lin one ∙ sym (most-said point lin)
plain-bound q (Eq lin) Lower point number is some one e = turned (value_at point lin) ∙ sym (value_at-negated point lin) ∙ one-least point lin one ∙ sym (least-said point lin is some)
plain-bound q (Div n lin) Upper point number is some one e = let one_of = once (value_at point (less_multiple n q lin)) in omega (arith, ints, one_of)
plain-bound q (Div n lin) Lower point number is some one e =
    let lm = less_multiple n q lin in
    let one_of = turned (value_at point lm) in
    let negative = value_at-negated point (without_constant lm) in
    omega (arith, ints, one_of, negative)
plain-bound q (NDiv n lin) Lower point number is some one e =
    let lm = less_multiple n q lin in
    let one_of = once (value_at point (one_minus lm)) in
    let whole = value_at-one_minus point lm in
    let negative = value_at-negated point (without_constant lm) in
    omega (arith, ints, one_of, whole, negative)
plain-bound q (NDiv n lin) Upper point number is some one e = let one_of = once (value_at point (plus (less_multiple n q lin) (pos 1 -ℤ pos n))) in omega (arith, ints, one_of)
