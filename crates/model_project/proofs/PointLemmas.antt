-- Points that differ in one variable, and values of forms at them.
use Rattle.std.proofs.Common.{◌≡◌, ℕ, suc, zero, List, [], ◌∷◌, refl, ap, sym, ◌∙◌, arith, true, false, Bool, ◌==◌, cond, not}
use Rattle.std.specs.Prelude.{ℤ, pos, neg_ℤ, ◌+ℤ◌, ◌-ℤ◌, ◌*ℤ◌}
use Rattle.std.specs.List.{filter}
use Rattle.std.proofs.Math.IntN.{*ℤ_comm}
use Rattle.std.proofs.lemmas.Int.{ints}
use Rattle.std.proofs.lemmas.Bool.{eqb-true, eqb-false}
use Rattle.base.proofs.Public.{*ℤ-+ℤ, +ℤ-*ℤ, neg_ℤ-*ℤ}
use Rattle.lin_atoms.specs.Linear.{Linear, sum_at, value_at, variable_at}
use Rattle.lin_atoms.specs.Algebra.{added, negated, scaled}
use Rattle.lin_atoms.proofs.Public.{value_at-added, value_at-negated, value_at-scaled}
use Rattle.model_project.specs.Substitution.{coefficient, coefficient_in, crossed, without}
use Rattle.model_project.proofs.NumberLemmas.{zero-times, times-zero}

-- the point with another value of one variable
pub put : ℕ → ℤ → List ℤ → List ℤ
put zero x [] = x ∷ []
put zero x (y ∷ p) = x ∷ p
put (suc v) x [] = pos 0 ∷ put v x []
put (suc v) x (y ∷ p) = y ∷ put v x p

pub put-here : (v : ℕ) (x : ℤ) (p : List ℤ) → variable_at (put v x p) v ≡ x
unfolding put
put-here zero x [] = refl
put-here zero x (y ∷ p) = refl
put-here (suc v) x [] = put-here v x []
put-here (suc v) x (y ∷ p) = put-here v x p

pub put-other : (v : ℕ) (x : ℤ) (p : List ℤ) (u : ℕ) → (u ≡ v → ⊥) → variable_at (put v x p) u ≡ variable_at p u
unfolding put
put-other zero x [] zero h = absurd (h refl)
put-other zero x [] (suc u) h = refl
put-other zero x (y ∷ p) zero h = absurd (h refl)
put-other zero x (y ∷ p) (suc u) h = refl
put-other (suc v) x [] zero h = refl
put-other (suc v) x [] (suc u) h = put-other v x [] u (λ e. h (ap suc e))
put-other (suc v) x (y ∷ p) zero h = refl
put-other (suc v) x (y ∷ p) (suc u) h = put-other v x p u (λ e. h (ap suc e))

-- two points that agree but for one variable, by which they differ
pub record Moves (v : ℕ) (d : ℤ) (p q : List ℤ) : Type 0 where
  pub here : variable_at q v ≡ variable_at p v +ℤ d
  pub others : (u : ℕ) → (u ≡ v → ⊥) → variable_at q u ≡ variable_at p u

pub put-moves : (v : ℕ) (d : ℤ) (p : List ℤ) → Moves v d p (put v (variable_at p v +ℤ d) p)
put-moves v d p = record { here = put-here v (variable_at p v +ℤ d) p; others = put-other v (variable_at p v +ℤ d) p }

pub put-other_value : (v : ℕ) (x : ℤ) (p : List ℤ) → Moves v (x -ℤ variable_at p v) p (put v x p)
put-other_value v x p = record { here = put-here v x p ∙ omega (arith, ints); others = put-other v x p }

moved_step : (v : ℕ) (d : ℤ) (p q : List ℤ) (t : ℕ × ℤ) (ts : List (ℕ × ℤ)) → Moves v d p q → sum_at q ts ≡ sum_at p ts +ℤ coefficient_in v ts *ℤ d
    → (b : Bool) → (t.0 == v) ≡ b → t.1 *ℤ variable_at q t.0 +ℤ sum_at q ts ≡ t.1 *ℤ variable_at p t.0 +ℤ sum_at p ts +ℤ cond b (t.1 +ℤ coefficient_in v ts) (coefficient_in v ts) *ℤ d
moved_step v d p q t ts m rest true e =
    let same : t.0 ≡ v = eqb-true _ _ e in
    let here : variable_at q t.0 ≡ variable_at p t.0 +ℤ d = ap (variable_at q) same ∙ m.here ∙ ap (λ u. variable_at p u +ℤ d) (sym same) in
    let first : t.1 *ℤ variable_at q t.0 ≡ t.1 *ℤ variable_at p t.0 +ℤ t.1 *ℤ d = ap (λ z. t.1 *ℤ z) here ∙ *ℤ-+ℤ t.1 (variable_at p t.0) d in
    let apart = +ℤ-*ℤ t.1 (coefficient_in v ts) d in
    omega (arith, ints, first, apart, rest)
moved_step v d p q t ts m rest false e =
    let first : t.1 *ℤ variable_at q t.0 ≡ t.1 *ℤ variable_at p t.0 = ap (λ z. t.1 *ℤ z) (m.others t.0 (eqb-false _ _ e)) in
    omega (arith, ints, first, rest)

sum_moved : (v : ℕ) (d : ℤ) (p q : List ℤ) (ts : List (ℕ × ℤ)) → Moves v d p q → sum_at q ts ≡ sum_at p ts +ℤ coefficient_in v ts *ℤ d
sum_moved v d p q [] m = let none = zero-times d in omega (arith, ints, none)
sum_moved v d p q (t ∷ ts) m = moved_step v d p q t ts m (sum_moved v d p q ts m) (t.0 == v) refl

-- the value moves by the coefficient times the difference
pub value_moved : (v : ℕ) (d : ℤ) (p q : List ℤ) (lin : Linear) → Moves v d p q → value_at q lin ≡ value_at p lin +ℤ coefficient v lin *ℤ d
value_moved v d p q lin m = let terms = sum_moved v d p q lin.terms m in omega (arith, ints, terms)

-- a coefficient is the value of the terms where its variable is 1 and all others are 0
unit : ℕ → List ℤ
unit v = put v (pos 1) []

nothing_at : (u : ℕ) → variable_at [] u ≡ pos 0
nothing_at u = refl

unit_step : (v : ℕ) (t : ℕ × ℤ) (ts : List (ℕ × ℤ)) → sum_at (unit v) ts ≡ coefficient_in v ts → (b : Bool) → (t.0 == v) ≡ b
    → t.1 *ℤ variable_at (unit v) t.0 +ℤ sum_at (unit v) ts ≡ cond b (t.1 +ℤ coefficient_in v ts) (coefficient_in v ts)
unfolding unit
unit_step v t ts rest true e =
    let one : variable_at (unit v) t.0 ≡ pos 1 = ap (variable_at (unit v)) (eqb-true _ _ e) ∙ put-here v (pos 1) [] in
    let first : t.1 *ℤ variable_at (unit v) t.0 ≡ t.1 *ℤ pos 1 = ap (λ z. t.1 *ℤ z) one in
    omega (arith, ints, first, rest)
unit_step v t ts rest false e =
    let none : variable_at (unit v) t.0 ≡ pos 0 = put-other v (pos 1) [] t.0 (eqb-false _ _ e) ∙ nothing_at t.0 in
    let first : t.1 *ℤ variable_at (unit v) t.0 ≡ pos 0 = ap (λ z. t.1 *ℤ z) none ∙ times-zero t.1 in
    omega (arith, ints, first, rest)

sum_at-unit : (v : ℕ) (ts : List (ℕ × ℤ)) → sum_at (unit v) ts ≡ coefficient_in v ts
sum_at-unit v [] = refl
sum_at-unit v (t ∷ ts) = unit_step v t ts (sum_at-unit v ts) (t.0 == v) refl

value_at-unit : (v : ℕ) (lin : Linear) → value_at (unit v) lin ≡ coefficient v lin +ℤ lin.constant
value_at-unit v lin = ap (λ z. z +ℤ lin.constant) (sum_at-unit v lin.terms)

pub coefficient-added : (v : ℕ) (a b : Linear) → coefficient v (added a b) ≡ coefficient v a +ℤ coefficient v b
coefficient-added v a b =
    let whole = value_at-added (unit v) a b in
    let sum = value_at-unit v (added a b) in
    let first = value_at-unit v a in
    let second = value_at-unit v b in
    omega (arith, ints, whole, sum, first, second)

pub coefficient-scaled : (v : ℕ) (k : ℤ) (a : Linear) → coefficient v (scaled k a) ≡ k *ℤ coefficient v a
coefficient-scaled v k a =
    let whole = value_at-scaled (unit v) k a in
    let product = value_at-unit v (scaled k a) in
    let first : k *ℤ value_at (unit v) a ≡ k *ℤ coefficient v a +ℤ k *ℤ a.constant = ap (λ z. k *ℤ z) (value_at-unit v a) ∙ *ℤ-+ℤ k (coefficient v a) a.constant in
    omega (arith, ints, whole, product, first)

pub coefficient-negated : (v : ℕ) (a : Linear) → coefficient v (negated a) ≡ neg_ℤ (coefficient v a)
coefficient-negated v a =
    let whole = value_at-negated (unit v) a in
    let turned = value_at-unit v (negated a) in
    let first = value_at-unit v a in
    omega (arith, ints, whole, turned, first)

-- a crossed form: its value and its coefficients
pub value_at-crossed : (v : ℕ) (p : List ℤ) (l m : Linear) → value_at p (crossed v l m) ≡ coefficient v l *ℤ value_at p m -ℤ coefficient v m *ℤ value_at p l
value_at-crossed v p l m =
    let a = coefficient v l in
    let b = coefficient v m in
    let sum = value_at-added p (scaled a m) (scaled (neg_ℤ b) l) in
    let first = value_at-scaled p a m in
    let second = value_at-scaled p (neg_ℤ b) l in
    let turned = neg_ℤ-*ℤ b (value_at p l) in
    omega (arith, ints, sum, first, second, turned)

pub coefficient-crossed : (u v : ℕ) (l m : Linear) → coefficient u (crossed v l m) ≡ coefficient v l *ℤ coefficient u m -ℤ coefficient v m *ℤ coefficient u l
coefficient-crossed u v l m =
    let a = coefficient v l in
    let b = coefficient v m in
    let sum = coefficient-added u (scaled a m) (scaled (neg_ℤ b) l) in
    let first = coefficient-scaled u a m in
    let second = coefficient-scaled u (neg_ℤ b) l in
    let turned = neg_ℤ-*ℤ b (coefficient u l) in
    omega (arith, ints, sum, first, second, turned)

pub crossed-gone : (v : ℕ) (l m : Linear) → coefficient v (crossed v l m) ≡ pos 0
crossed-gone v l m =
    let whole = coefficient-crossed v v l m in
    let turned = *ℤ_comm (coefficient v l) (coefficient v m) in
    omega (arith, ints, whole, turned)

-- the form but for one variable
without_step : (v : ℕ) (p : List ℤ) (t : ℕ × ℤ) (ts : List (ℕ × ℤ)) → sum_at p ts ≡ coefficient_in v ts *ℤ variable_at p v +ℤ sum_at p (filter (λ t. not (t.0 == v)) ts) → (b : Bool) → (t.0 == v) ≡ b
    → t.1 *ℤ variable_at p t.0 +ℤ sum_at p ts ≡ cond b (t.1 +ℤ coefficient_in v ts) (coefficient_in v ts) *ℤ variable_at p v +ℤ sum_at p (cond (not b) (t ∷ filter (λ t. not (t.0 == v)) ts) (filter (λ t. not (t.0 == v)) ts))
without_step v p t ts rest true e =
    let first : t.1 *ℤ variable_at p t.0 ≡ t.1 *ℤ variable_at p v = ap (λ u. t.1 *ℤ variable_at p u) (eqb-true _ _ e) in
    let apart = +ℤ-*ℤ t.1 (coefficient_in v ts) (variable_at p v) in
    omega (arith, ints, first, apart, rest)
without_step v p t ts rest false e = omega (arith, ints, rest)

sum_at-without : (v : ℕ) (p : List ℤ) (ts : List (ℕ × ℤ)) → sum_at p ts ≡ coefficient_in v ts *ℤ variable_at p v +ℤ sum_at p (filter (λ t. not (t.0 == v)) ts)
sum_at-without v p [] = let none = zero-times (variable_at p v) in omega (arith, ints, none)
sum_at-without v p (t ∷ ts) = without_step v p t ts (sum_at-without v p ts) (t.0 == v) refl

pub value_at-without : (v : ℕ) (p : List ℤ) (lin : Linear) → value_at p lin ≡ coefficient v lin *ℤ variable_at p v +ℤ value_at p (without v lin)
value_at-without v p lin = let terms = sum_at-without v p lin.terms in omega (arith, ints, terms)

without_gone : (v : ℕ) (t : ℕ × ℤ) (ts : List (ℕ × ℤ)) → coefficient_in v ts ≡ pos 0 → (b : Bool) → (t.0 == v) ≡ b → coefficient_in v (cond (not b) (t ∷ ts) ts) ≡ pos 0
without_gone v t ts rest true e = rest
without_gone v t ts rest false e = ap (λ c. cond c (t.1 +ℤ coefficient_in v ts) (coefficient_in v ts)) e ∙ rest

gone_in : (v : ℕ) (ts : List (ℕ × ℤ)) → coefficient_in v (filter (λ t. not (t.0 == v)) ts) ≡ pos 0
gone_in v [] = refl
gone_in v (t ∷ ts) = without_gone v t (filter (λ t. not (t.0 == v)) ts) (gone_in v ts) (t.0 == v) refl

pub without-gone : (v : ℕ) (lin : Linear) → coefficient v (without v lin) ≡ pos 0
without-gone v lin = gone_in v lin.terms

without_stays : (u v : ℕ) (t : ℕ × ℤ) (ts us : List (ℕ × ℤ)) → coefficient_in u us ≡ coefficient_in u ts → (u ≡ v → ⊥) → (b c : Bool) → (t.0 == v) ≡ b → (t.0 == u) ≡ c
    → coefficient_in u (cond (not b) (t ∷ us) us) ≡ cond c (t.1 +ℤ coefficient_in u ts) (coefficient_in u ts)
without_stays u v t ts us rest other true true e f = absurd (other (sym (eqb-true _ _ f) ∙ eqb-true _ _ e))
without_stays u v t ts us rest other true false e f = rest
without_stays u v t ts us rest other false c e f = ap (λ c. cond c (t.1 +ℤ coefficient_in u us) (coefficient_in u us)) f ∙ ap (λ z. cond c (t.1 +ℤ z) z) rest

stays_in : (u v : ℕ) (ts : List (ℕ × ℤ)) → (u ≡ v → ⊥) → coefficient_in u (filter (λ t. not (t.0 == v)) ts) ≡ coefficient_in u ts
stays_in u v [] other = refl
stays_in u v (t ∷ ts) other = without_stays u v t ts (filter (λ t. not (t.0 == v)) ts) (stays_in u v ts other) other (t.0 == v) (t.0 == u) refl refl

pub without-stays : (u v : ℕ) (lin : Linear) → (u ≡ v → ⊥) → coefficient u (without v lin) ≡ coefficient u lin
without-stays u v lin other = stays_in u v lin.terms other
