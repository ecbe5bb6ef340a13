-- The truth of a literal under a substitution.
use Rattle.std.proofs.Common.{◌≡◌, ◌<◌, ◌≤◌, ◌*◌, ◌&&◌, ℕ, List, [], ◌∷◌, refl, ap, sym, ◌∙◌, subst, arith, true, false, Bool, ◌==◌, cond, not}
use Rattle.std.specs.Prelude.{ℤ, pos, neg_ℤ, ◌+ℤ◌, ◌-ℤ◌, ◌*ℤ◌, ◌<ℤ◌, int_le, int_lt, nat_abs, nat_lt}
use Rattle.std.proofs.Math.IntN.{*ℤ_comm}
use Rattle.std.proofs.lemmas.Int.{ints}
use Rattle.std.proofs.lemmas.Bool.{eqb-true, ltb-true, ltb-false}
use Rattle.base.proofs.Public.{neg_ℤ-*ℤ}
use Rattle.lin_atoms.specs.Multiples.{is_multiple}
use Rattle.lin_atoms.specs.Linear.{Linear, value_at, variable_at}
use Rattle.lin_atoms.specs.Algebra.{negated}
use Rattle.lin_atoms.specs.Denial.{linear_of}
use Rattle.lin_atoms.specs.Truth.{lit_truth}
use Rattle.lin_atoms.specs.declared.lit.Lit.{Lit}
use Rattle.lin_atoms.specs.declared.lit.Lit.TheVariants.{Le, Eq, Div, NDiv}
use Rattle.lin_atoms.proofs.Public.{positive, value_at-negated}
use Rattle.model_project.specs.Substitution.{coefficient, crossed, crossed_lit, left_over, lin_has, occurs, substituted, upright, without}
use Rattle.model_project.specs.Projection.{are_true}
use Rattle.model_project.proofs.NumberLemmas.{factor, is_factor, lt-false, lt-true, times-eq, times-le, times-multiple, times-zero, zero-times}
use Rattle.model_project.proofs.PointLemmas.{Moves, coefficient-crossed, coefficient-negated, crossed-gone, put, put-here, put-other_value, value_at-crossed, value_at-without, value_moved, without-gone}

-- what is not there has the coefficient 0
pub lacking : (v : ℕ) (lin : Linear) → lin_has v lin ≡ false → coefficient v lin ≡ pos 0
lacking v lin h = let none : nat_abs (coefficient v lin) ≤ 0 = ltb-false _ _ h in omega (arith, ints)

pub lacks-zero : (v : ℕ) (lin : Linear) → coefficient v lin ≡ pos 0 → lin_has v lin ≡ false
lacks-zero v lin h = ap (λ z. nat_lt 0 (nat_abs z)) h

pub truth_by_value : (p q : List ℤ) (lit : Lit) → value_at p (linear_of lit) ≡ value_at q (linear_of lit) → lit_truth p lit ≡ lit_truth q lit
truth_by_value p q (Le lin) e = ap (λ z. int_le z (pos 0)) e
truth_by_value p q (Eq lin) e = ap (λ z. nat_abs z == 0) e
truth_by_value p q (Div d lin) e = ap (λ z. is_multiple (pos d) z) e
truth_by_value p q (NDiv d lin) e = ap (λ z. not (is_multiple (pos d) z)) e

-- a literal is as true where a variable that it lacks has another value
pub truth_stays : (v : ℕ) (d : ℤ) (p q : List ℤ) (lit : Lit) → Moves v d p q → occurs v lit ≡ false → lit_truth q lit ≡ lit_truth p lit
truth_stays v d p q lit m h =
    let none : coefficient v (linear_of lit) *ℤ d ≡ pos 0 = ap (λ z. z *ℤ d) (lacking v (linear_of lit) h) ∙ zero-times d in
    truth_by_value q p lit (let e = value_moved v d p q (linear_of lit) m in omega (arith, ints, e, none))

crossed_value : (v : ℕ) (q : List ℤ) (l m : Linear) → value_at q l ≡ pos 0 → value_at q (crossed v l m) ≡ coefficient v l *ℤ value_at q m
crossed_value v q l m h =
    let whole = value_at-crossed v q l m in
    let none : coefficient v m *ℤ value_at q l ≡ pos 0 = ap (λ z. coefficient v m *ℤ z) h ∙ times-zero (coefficient v m) in
    omega (arith, ints, whole, none)

pub crossed_truth : (v : ℕ) (q : List ℤ) (l : Linear) (lit : Lit) → pos 0 <ℤ coefficient v l → value_at q l ≡ pos 0 → lit_truth q (crossed_lit v l lit) ≡ lit_truth q lit
crossed_truth v q l (Le m) some h = ap (λ z. int_le z (pos 0)) (crossed_value v q l m h) ∙ times-le (coefficient v l) (value_at q m) some
crossed_truth v q l (Eq m) some h = ap (λ z. nat_abs z == 0) (crossed_value v q l m h) ∙ times-eq (coefficient v l) (value_at q m) some
crossed_truth v q l (Div d m) some h = ap (λ z. is_multiple (pos (nat_abs (coefficient v l) * d)) z) (crossed_value v q l m h) ∙ times-multiple (coefficient v l) d (value_at q m) some
crossed_truth v q l (NDiv d m) some h = ap not (ap (λ z. is_multiple (pos (nat_abs (coefficient v l) * d)) z) (crossed_value v q l m h) ∙ times-multiple (coefficient v l) d (value_at q m) some)

by_occurs : (v : ℕ) (q : List ℤ) (l : Linear) (lit : Lit) (b : Bool) → pos 0 <ℤ coefficient v l → value_at q l ≡ pos 0 → lit_truth q (cond b (crossed_lit v l lit) lit) ≡ lit_truth q lit
by_occurs v q l lit true some h = crossed_truth v q l lit some h
by_occurs v q l lit false some h = refl

pub substituted_truth : (v : ℕ) (q : List ℤ) (l : Linear) (lit : Lit) → pos 0 <ℤ coefficient v l → value_at q l ≡ pos 0 → lit_truth q (substituted v l lit) ≡ lit_truth q lit
substituted_truth v q l lit some h = by_occurs v q l lit (occurs v lit) some h

-- a * v + t is 0: a divides t
left_here : (v : ℕ) (q : List ℤ) (l : Linear) (b : Bool) → pos 0 <ℤ coefficient v l → value_at q l ≡ pos 0 → are_true q (cond b [] (Div (nat_abs (coefficient v l)) (without v l) ∷ [])) ≡ true
left_here v q l true some h = refl
left_here v q l false some h =
    let a = coefficient v l in
    let x = variable_at q v in
    let t = value_at q (without v l) in
    let whole = value_at-without v q l in
    let turned : neg_ℤ x *ℤ pos (nat_abs a) ≡ neg_ℤ (a *ℤ x) = neg_ℤ-*ℤ x (pos (nat_abs a)) ∙ ap neg_ℤ (ap (λ z. x *ℤ z) (sym (positive a some)) ∙ *ℤ_comm x a) in
    ap (λ b. b && true) (is_factor (nat_abs a) (neg_ℤ x) t (omega (arith, ints, whole, turned, h)))

pub left_over_true : (v : ℕ) (q : List ℤ) (l : Linear) → pos 0 <ℤ coefficient v l → value_at q l ≡ pos 0 → are_true q (left_over v l) ≡ true
left_over_true v q l some h = left_here v q l (nat_abs (coefficient v l) == 1) some h

only_true : (b : Bool) → (b && true) ≡ true → b ≡ true
only_true true h = refl
only_true false h = h

-- and where a divides t there is a value at which it is 0
root_here : (v : ℕ) (p : List ℤ) (l : Linear) (b : Bool) → (nat_abs (coefficient v l) == 1) ≡ b → pos 0 <ℤ coefficient v l → are_true p (cond b [] (Div (nat_abs (coefficient v l)) (without v l) ∷ [])) ≡ true
    → (x : ℤ) × (coefficient v l *ℤ x +ℤ value_at p (without v l) ≡ pos 0)
root_here v p l true e some h =
    let a = coefficient v l in
    let t = value_at p (without v l) in
    let size : nat_abs a ≡ 1 = eqb-true _ _ e in
    let one : a ≡ pos 1 = omega (arith, ints, size, some) in
    let whole : a *ℤ neg_ℤ t ≡ neg_ℤ t = ap (λ z. z *ℤ neg_ℤ t) one ∙ omega (arith, ints) in
    (neg_ℤ t, omega (arith, ints, whole))
root_here v p l false e some h =
    let a = coefficient v l in
    let t = value_at p (without v l) in
    let f = factor (nat_abs a) t (only_true (is_multiple (pos (nat_abs a)) t) h) in
    let turned : a *ℤ neg_ℤ f.0 ≡ neg_ℤ (f.0 *ℤ pos (nat_abs a)) = *ℤ_comm a (neg_ℤ f.0) ∙ neg_ℤ-*ℤ f.0 a ∙ ap neg_ℤ (ap (λ z. f.0 *ℤ z) (positive a some)) in
    (neg_ℤ f.0, omega (arith, ints, turned, f.1))

pub root : (v : ℕ) (p : List ℤ) (l : Linear) → pos 0 <ℤ coefficient v l → are_true p (left_over v l) ≡ true → (x : ℤ) × (value_at (put v x p) l ≡ pos 0)
root v p l some h =
    let r = root_here v p l (nat_abs (coefficient v l) == 1) refl some h in
    let q = put v r.0 p in
    let whole = value_at-without v q l in
    let here : coefficient v l *ℤ variable_at q v ≡ coefficient v l *ℤ r.0 = ap (λ z. coefficient v l *ℤ z) (put-here v r.0 p) in
    let d = r.0 -ℤ variable_at p v in
    let moved = value_moved v d p q (without v l) (put-other_value v r.0 p) in
    let none : coefficient v (without v l) *ℤ d ≡ pos 0 = ap (λ z. z *ℤ d) (without-gone v l) ∙ zero-times d in
    (r.0, omega (arith, ints, whole, here, moved, none, r.1))

-- the equation with its coefficient above 0
upright_here : (v : ℕ) (q : List ℤ) (e : Linear) (b : Bool) → (value_at q (cond b (negated e) e) ≡ pos 0 → value_at q e ≡ pos 0) × (value_at q e ≡ pos 0 → value_at q (cond b (negated e) e) ≡ pos 0)
upright_here v q e true = let n = value_at-negated q e in (λ h. omega (arith, ints, n, h), λ h. omega (arith, ints, n, h))
upright_here v q e false = (λ h. h, λ h. h)

pub upright_value : (v : ℕ) (q : List ℤ) (e : Linear) → (value_at q (upright v e) ≡ pos 0 → value_at q e ≡ pos 0) × (value_at q e ≡ pos 0 → value_at q (upright v e) ≡ pos 0)
upright_value v q e = upright_here v q e (int_lt (coefficient v e) (pos 0))

upright_above : (v : ℕ) (e : Linear) (b : Bool) → int_lt (coefficient v e) (pos 0) ≡ b → lin_has v e ≡ true → pos 0 <ℤ coefficient v (cond b (negated e) e)
upright_above v e true h has = let n = coefficient-negated v e in let low = lt-true (coefficient v e) (pos 0) h in omega (arith, ints, n, low)
upright_above v e false h has =
    let high = lt-false (coefficient v e) (pos 0) h in
    let some : 0 < nat_abs (coefficient v e) = ltb-true _ _ has in
    omega (arith, ints, high, some)

pub upright_positive : (v : ℕ) (e : Linear) → lin_has v e ≡ true → pos 0 <ℤ coefficient v (upright v e)
upright_positive v e has = upright_above v e (int_lt (coefficient v e) (pos 0)) refl has

pub upright_from : (v : ℕ) (e made : Linear) → made ≡ upright v e → lin_has v e ≡ true → pos 0 <ℤ coefficient v made
upright_from v e made is has = subst (λ m. pos 0 <ℤ coefficient v m) (sym is) (upright_positive v e has)

upright_lacks : (u : ℕ) (e : Linear) (b : Bool) → coefficient u e ≡ pos 0 → coefficient u (cond b (negated e) e) ≡ pos 0
upright_lacks u e true h = coefficient-negated u e ∙ ap neg_ℤ h
upright_lacks u e false h = h

pub upright_zero : (u v : ℕ) (e : Linear) → coefficient u e ≡ pos 0 → coefficient u (upright v e) ≡ pos 0
upright_zero u v e h = upright_lacks u e (int_lt (coefficient v e) (pos 0)) h

-- what a substitution puts in has no variable that was not there, and not the one that it is for
crossed_linear : (v : ℕ) (l : Linear) (lit : Lit) → linear_of (crossed_lit v l lit) ≡ crossed v l (linear_of lit)
crossed_linear v l (Le m) = refl
crossed_linear v l (Eq m) = refl
crossed_linear v l (Div d m) = refl
crossed_linear v l (NDiv d m) = refl

gone_here : (v : ℕ) (l : Linear) (lit : Lit) (b : Bool) → occurs v lit ≡ b → occurs v (cond b (crossed_lit v l lit) lit) ≡ false
gone_here v l lit true e = ap (lin_has v) (crossed_linear v l lit) ∙ lacks-zero v (crossed v l (linear_of lit)) (crossed-gone v l (linear_of lit))
gone_here v l lit false e = e

pub substituted_gone : (v : ℕ) (l : Linear) (lit : Lit) → occurs v (substituted v l lit) ≡ false
substituted_gone v l lit = gone_here v l lit (occurs v lit) refl

other_here : (u v : ℕ) (l : Linear) (lit : Lit) (b : Bool) → coefficient u l ≡ pos 0 → occurs u lit ≡ false → occurs u (cond b (crossed_lit v l lit) lit) ≡ false
other_here u v l lit true none h =
    let m = linear_of lit in
    let whole = coefficient-crossed u v l m in
    let first : coefficient v l *ℤ coefficient u m ≡ pos 0 = ap (λ z. coefficient v l *ℤ z) (lacking u m h) ∙ times-zero (coefficient v l) in
    let second : coefficient v m *ℤ coefficient u l ≡ pos 0 = ap (λ z. coefficient v m *ℤ z) none ∙ times-zero (coefficient v m) in
    ap (lin_has u) (crossed_linear v l lit) ∙ lacks-zero u (crossed v l m) (omega (arith, ints, whole, first, second))
other_here u v l lit false none h = h

pub substituted_lacks : (u v : ℕ) (l : Linear) (lit : Lit) → coefficient u l ≡ pos 0 → occurs u lit ≡ false → occurs u (substituted v l lit) ≡ false
substituted_lacks u v l lit none h = other_here u v l lit (occurs v lit) none h
