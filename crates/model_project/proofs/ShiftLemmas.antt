-- A variable that is moved by a multiple of the divisors, no further than the bounds allow.
use Rattle.std.proofs.Common.{◌≡◌, ◌<◌, ◌≤◌, ◌*◌, ◌/◌, ◌&&◌, ◌||◌, ℕ, suc, List, [], ◌∷◌, refl, ap, sym, ◌∙◌, subst, arith, true, false, Bool, cond, not, Option, Some, None, ⊎_elim}
use Rattle.std.specs.Prelude.{ℤ, pos, neg_ℤ, ◌+ℤ◌, ◌*ℤ◌, ◌≤ℤ◌, nat_abs, nat_lt}
use Rattle.std.specs.Int.{◌∣◌}
use Rattle.std.specs.List.{list_any}
use Rattle.std.proofs.Math.Nat.{div-mul_cancel, mul-le-mul_right}
use Rattle.std.proofs.lemmas.Int.{ints}
use Rattle.std.proofs.lemmas.Bool.{ltb-true, ltb-false, cases_lt}
use Rattle.base.proofs.Public.{*ℤ_assoc}
use Rattle.lin_atoms.specs.Linear.{Linear, value_at}
use Rattle.lin_atoms.specs.Denial.{linear_of}
use Rattle.lin_atoms.specs.Truth.{lit_truth}
use Rattle.lin_atoms.specs.declared.lit.Lit.{Lit}
use Rattle.lin_atoms.specs.declared.lit.Lit.TheVariants.{Le, Eq, Div, NDiv}
use Rattle.lin_atoms.proofs.Public.{both_true}
use Rattle.model_project.specs.Substitution.{coefficient, is_equation, lin_has, occurs}
use Rattle.model_project.specs.Elimination.{divisor, gap, is_bound, is_nearer, nearer, nearest, on_side}
use Rattle.model_project.specs.Projection.{are_true}
use Rattle.model_project.proofs.NumberLemmas.{abs-zero, le-true, lt-true, multiple-shift, true-le, zero-abs, zero-times}
use Rattle.model_project.proofs.PeriodLemmas.{Divides}
use Rattle.model_project.proofs.PointLemmas.{Moves, value_moved}
use Rattle.model_project.proofs.TruthLemmas.{lacking}

-- a bound stays true
abbrev pub Holds : ℕ → ℤ → List ℤ → Lit → Type 0
Holds v d p (Le m) = (value_at p m +ℤ coefficient v m *ℤ d) ≤ℤ pos 0
Holds v d p (Eq m) = Unit {0}
Holds v d p (Div n m) = Unit {0}
Holds v d p (NDiv n m) = Unit {0}

abbrev pub AllHold : ℕ → ℤ → List ℤ → List Lit → Type 0
AllHold v d p [] = Unit {0}
AllHold v d p (lit ∷ lits) = Holds v d p lit × AllHold v d p lits

-- d is a multiple of n, unless the coefficient is 0
times_whole : (c d j : ℤ) (n m : ℕ) → d ≡ j *ℤ pos n → m ∣ n → (k : ℤ) × (c *ℤ d ≡ k *ℤ pos m)
times_whole c d j n m e divides =
    let i = n / m in
    let whole : pos n ≡ pos i *ℤ pos m = ap pos (sym (div-mul_cancel m divides)) in
    let spread : d ≡ j *ℤ pos i *ℤ pos m = e ∙ ap (λ z. j *ℤ z) whole ∙ sym (*ℤ_assoc j (pos i) (pos m)) in
    (c *ℤ (j *ℤ pos i), ap (λ z. c *ℤ z) spread ∙ sym (*ℤ_assoc c (j *ℤ pos i) (pos m)))

by_has : (c d j : ℤ) (n m : ℕ) (b : Bool) → nat_lt 0 (nat_abs c) ≡ b → d ≡ j *ℤ pos n → (b ≡ true → m ∣ n) → (k : ℤ) × (c *ℤ d ≡ k *ℤ pos m)
by_has c d j n m true e is divides = times_whole c d j n m is (divides refl)
by_has c d j n m false e is divides =
    let none : nat_abs c ≤ 0 = ltb-false _ _ e in
    let z : c ≡ pos 0 = omega (arith, ints) in
    (pos 0, ap (λ x. x *ℤ d) z ∙ zero-times d ∙ sym (zero-times (pos m)))

-- a literal stays true
shift_truth : (v : ℕ) (d j : ℤ) (n : ℕ) (p q : List ℤ) (lit : Lit) → Moves v d p q → d ≡ j *ℤ pos n → is_equation v lit ≡ false → (occurs v lit ≡ true → divisor lit ∣ n) → Holds v d p lit → lit_truth p lit ≡ true → lit_truth q lit ≡ true
shift_truth v d j n p q (Le m) mv is free divides h t = let e = value_moved v d p q m mv in true-le (value_at q m) (pos 0) (omega (arith, ints, e, h))
shift_truth v d j n p q (Eq m) mv is free divides h t =
    let e = value_moved v d p q m mv in
    let none : coefficient v m *ℤ d ≡ pos 0 = ap (λ z. z *ℤ d) (lacking v m free) ∙ zero-times d in
    let here = zero-abs (value_at p m) t in
    abs-zero (value_at q m) (omega (arith, ints, e, none, here))
shift_truth v d j n p q (Div m lin) mv is free divides h t =
    let e = value_moved v d p q lin mv in
    let k = by_has (coefficient v lin) d j n m (lin_has v lin) refl is divides in
    multiple-shift m k.0 (value_at p lin) (value_at q lin) (e ∙ ap (λ z. value_at p lin +ℤ z) k.1) ∙ t
shift_truth v d j n p q (NDiv m lin) mv is free divides h t =
    let e = value_moved v d p q lin mv in
    let k = by_has (coefficient v lin) d j n m (lin_has v lin) refl is divides in
    ap not (multiple-shift m k.0 (value_at p lin) (value_at q lin) (e ∙ ap (λ z. value_at p lin +ℤ z) k.1)) ∙ t

pub neither : (b c : Bool) → (b || c) ≡ false → (b ≡ false) × (c ≡ false)
neither true c h = absurd (cc)
neither false c h = (refl, h)

-- and so do all
pub shifted_true : (v : ℕ) (d j : ℤ) (n : ℕ) (p q : List ℤ) (lits : List Lit) → Moves v d p q → d ≡ j *ℤ pos n → list_any (is_equation v) lits ≡ false → Divides n v lits → AllHold v d p lits → are_true p lits ≡ true → are_true q lits ≡ true
shifted_true v d j n p q [] mv is free divides h t = refl
shifted_true v d j n p q (lit ∷ lits) mv is free divides h t =
    let none = neither (is_equation v lit) _ free in
    let both = both_true (lit_truth p lit) _ t in
    ap (λ b. b && are_true q lits) (shift_truth v d j n p q lit mv is none.0 divides.0 h.0 both.0) ∙ shifted_true v d j n p q lits mv is none.1 divides.1 h.1 both.1

-- the gap of a true bound
pub gap_is : (p : List ℤ) (lin : Linear) → value_at p lin ≤ℤ pos 0 → value_at p lin ≡ neg_ℤ (pos (gap p lin))
gap_is p lin h = omega (arith, ints)

-- no bound has a lesser gap
abbrev pub IsNearest : List ℤ → Bool → ℕ → Linear → List Lit → Type 0
IsNearest p below v lin [] = Unit {0}
IsNearest p below v lin (lit ∷ lits) = (is_bound below v lit ≡ true → gap p lin * nat_abs (coefficient v (linear_of lit)) ≤ gap p (linear_of lit) * nat_abs (coefficient v lin)) × IsNearest p below v lin lits

some_by : (p : List ℤ) (a b : Linear) (c : Bool) → cond c (Some a) (Some b) ≡ None → ⊥
some_by p a b true h = cc
some_by p a b false h = cc

some_nearer : (p : List ℤ) (v : ℕ) (lin : Linear) (o : Option Linear) → nearer p v lin o ≡ None → ⊥
some_nearer p v lin None h = cc
some_nearer p v lin (Some other) h = some_by p other lin (is_nearer p v other lin) h

none_here : (p : List ℤ) (below : Bool) (v : ℕ) (lin : Linear) (lit : Lit) (lits : List Lit) (b : Bool) → is_bound below v lit ≡ b → cond b (nearer p v (linear_of lit) (nearest p below v lits)) (nearest p below v lits) ≡ None → (nearest p below v lits ≡ None → IsNearest p below v lin lits) → IsNearest p below v lin (lit ∷ lits)
none_here p below v lin lit lits true e h rest = absurd (some_nearer p v (linear_of lit) (nearest p below v lits) h)
none_here p below v lin lit lits false e h rest = (λ is. absurd (cc), rest h)

nearest_none : (p : List ℤ) (below : Bool) (v : ℕ) (lin : Linear) (lits : List Lit) → nearest p below v lits ≡ None → IsNearest p below v lin lits
nearest_none p below v lin [] h = tt
nearest_none p below v lin (lit ∷ lits) h = none_here p below v lin lit lits (is_bound below v lit) refl h (nearest_none p below v lin lits)

-- a bound that is no further than another one is no further than what that one is no further than
pub le_of_mul : (x y b : ℕ) → 0 < b → x * b ≤ y * b → x ≤ y
le_of_mul x y b some h = ⊎_elim (λ lt. let more : suc y * b ≤ x * b = mul-le-mul_right b (omega arith) in absurd (omega (arith, more, h))) (λ ge. ge) (cases_lt y x)

chain : (g a h b k c : ℕ) → 0 < b → g * b ≤ h * a → h * c ≤ k * b → g * c ≤ k * a
chain g a h b k c some first second =
    let one : g * b * c ≤ h * a * c = mul-le-mul_right c first in
    let two : h * c * a ≤ k * b * a = mul-le-mul_right a second in
    let all : g * c * b ≤ k * a * b = omega (arith, one, two) in
    le_of_mul (g * c) (k * a) b some all

nearest_further : (p : List ℤ) (below : Bool) (v : ℕ) (lin other : Linear) (lits : List Lit) → 0 < nat_abs (coefficient v other) → gap p lin * nat_abs (coefficient v other) ≤ gap p other * nat_abs (coefficient v lin) → IsNearest p below v other lits → IsNearest p below v lin lits
nearest_further p below v lin other [] some le h = tt
nearest_further p below v lin other (lit ∷ lits) some le h = (
  λ is. chain (gap p lin) (nat_abs (coefficient v lin)) (gap p other) (nat_abs (coefficient v other)) (gap p (linear_of lit)) (nat_abs (coefficient v (linear_of lit))) some le (h.0 is),
  nearest_further p below v lin other lits some le h.1,
)

-- the nearest bound: it is one, it is true, and no other is nearer
pub record Nearest (p : List ℤ) (below : Bool) (v : ℕ) (lin : Linear) (lits : List Lit) : Type 0 where
  pub side : on_side below (coefficient v lin) ≡ true
  pub holds : value_at p lin ≤ℤ pos 0
  pub least : IsNearest p below v lin lits

bound_side : (below : Bool) (v : ℕ) (lit : Lit) → is_bound below v lit ≡ true → on_side below (coefficient v (linear_of lit)) ≡ true
bound_side below v (Le m) h = h
bound_side below v (Eq m) h = absurd (cc)
bound_side below v (Div n m) h = absurd (cc)
bound_side below v (NDiv n m) h = absurd (cc)

bound_holds : (p : List ℤ) (below : Bool) (v : ℕ) (lit : Lit) → is_bound below v lit ≡ true → lit_truth p lit ≡ true → value_at p (linear_of lit) ≤ℤ pos 0
bound_holds p below v (Le m) h t = le-true _ _ t
bound_holds p below v (Eq m) h t = absurd (cc)
bound_holds p below v (Div n m) h t = absurd (cc)
bound_holds p below v (NDiv n m) h t = absurd (cc)

pub side_some : (below : Bool) (c : ℤ) → on_side below c ≡ true → 0 < nat_abs c
side_some true c h = let low = lt-true c (pos 0) h in omega (arith, ints)
side_some false c h = let high = lt-true (pos 0) c h in omega (arith, ints)

nearer_here : (p : List ℤ) (below : Bool) (v : ℕ) (lit : Lit) (lits : List Lit) (other lin : Linear) (b : Bool) → is_nearer p v other (linear_of lit) ≡ b → is_bound below v lit ≡ true → lit_truth p lit ≡ true → Nearest p below v other lits
    → cond b (Some other) (Some (linear_of lit)) ≡ Some lin → Nearest p below v lin (lit ∷ lits)
nearer_here p below v lit lits other lin true near is t n h =
    let same : other ≡ lin = cc in
    let less = ltb-true _ _ near in
    subst (λ l. Nearest p below v l (lit ∷ lits)) same (record { side = n.side; holds = n.holds; least = (λ e. omega (arith, less), n.least) })
nearer_here p below v lit lits other lin false near is t n h =
    let same : linear_of lit ≡ lin = cc in
    let le = ltb-false _ _ near in
    subst (λ l. Nearest p below v l (lit ∷ lits)) same (record {
      side = bound_side below v lit is;
      holds = bound_holds p below v lit is t;
      least = (λ e. omega arith, nearest_further p below v (linear_of lit) other lits (side_some below (coefficient v other) n.side) le n.least);
    })

nearest_by : (p : List ℤ) (below : Bool) (v : ℕ) (lit : Lit) (lits : List Lit) (lin : Linear) (o : Option Linear) → nearest p below v lits ≡ o → is_bound below v lit ≡ true → lit_truth p lit ≡ true → ((other : Linear) → nearest p below v lits ≡ Some other → Nearest p below v other lits)
    → nearer p v (linear_of lit) o ≡ Some lin → Nearest p below v lin (lit ∷ lits)
nearest_by p below v lit lits lin None e is t rest h =
    let same : linear_of lit ≡ lin = cc in
    subst (λ l. Nearest p below v l (lit ∷ lits)) same (record { side = bound_side below v lit is; holds = bound_holds p below v lit is t; least = (λ e. omega arith, nearest_none p below v (linear_of lit) lits e) })
nearest_by p below v lit lits lin (Some other) e is t rest h = nearer_here p below v lit lits other lin (is_nearer p v other (linear_of lit)) refl is t (rest other e) h

skip_here : (p : List ℤ) (below : Bool) (v : ℕ) (lit : Lit) (lits : List Lit) (lin : Linear) → is_bound below v lit ≡ false → Nearest p below v lin lits → Nearest p below v lin (lit ∷ lits)
skip_here p below v lit lits lin free n = record { side = n.side; holds = n.holds; least = (λ e. absurd (cc), n.least) }

nearest_step : (p : List ℤ) (below : Bool) (v : ℕ) (lit : Lit) (lits : List Lit) (lin : Linear) (b : Bool) → is_bound below v lit ≡ b → lit_truth p lit ≡ true → ((other : Linear) → nearest p below v lits ≡ Some other → Nearest p below v other lits)
    → cond b (nearer p v (linear_of lit) (nearest p below v lits)) (nearest p below v lits) ≡ Some lin → Nearest p below v lin (lit ∷ lits)
nearest_step p below v lit lits lin true is t rest h = nearest_by p below v lit lits lin (nearest p below v lits) refl is t rest h
nearest_step p below v lit lits lin false is t rest h = skip_here p below v lit lits lin is (rest lin h)

pub nearest_is : (p : List ℤ) (below : Bool) (v : ℕ) (lits : List Lit) (lin : Linear) → are_true p lits ≡ true → nearest p below v lits ≡ Some lin → Nearest p below v lin lits
nearest_is p below v [] lin t h = absurd (cc)
nearest_is p below v (lit ∷ lits) lin t h =
    let both = both_true (lit_truth p lit) _ t in
    nearest_step p below v lit lits lin (is_bound below v lit) refl both.0 (λ other e. nearest_is p below v lits other both.1 e) h
