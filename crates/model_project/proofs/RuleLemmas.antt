-- Each rule keeps the model, and each point of the new list extends to one of the old.
use Rattle.std.proofs.Common.{◌≡◌, ◌<◌, ◌≤◌, ◌+◌, ◌*◌, ◌/◌, ◌%◌, ◌^◌, ◌&&◌, ◌||◌, ℕ, suc, List, [], ◌∷◌, refl, ap, sym, ◌∙◌, subst, arith, true, false, Bool, ◌==◌, cond, not, Option, Some, None}
use Rattle.std.specs.Prelude.{ℤ, pos, negsuc, neg_ℤ, ◌+ℤ◌, ◌-ℤ◌, ◌*ℤ◌, ◌≤ℤ◌, ◌<ℤ◌, int_lt, nat_abs, nat_lt}
use Rattle.std.specs.Int.{int_div_euclid, int_rem_euclid}
use Rattle.std.specs.List.{list_all, list_any, filter}
use Rattle.std.proofs.Math.IntN.{*ℤ_comm}
use Rattle.std.proofs.Math.Nat.{mul-le-mul_right, div-add-mod}
use Rattle.std.proofs.lemmas.Int.{ints}
use Rattle.std.proofs.lemmas.Bool.Decides.{nat_tests}
use Rattle.std.proofs.lemmas.Bool.{eqb-true}
use Rattle.base.proofs.Public.{neg_ℤ-*ℤ}
use Rattle.lin_atoms.specs.Linear.{Linear, value_at, variable_at}
use Rattle.lin_atoms.specs.Algebra.{plus}
use Rattle.lin_atoms.specs.Denial.{linear_of}
use Rattle.lin_atoms.specs.Truth.{lit_truth}
use Rattle.lin_atoms.specs.declared.lit.Lit.{Lit}
use Rattle.lin_atoms.specs.declared.lit.Lit.TheVariants.{Le, Eq, Div, NDiv}
use Rattle.lin_atoms.proofs.Public.{both_true, quotient-rest}
use Rattle.model_project.specs.Substitution.{coefficient, equation_in, is_equation, lin_has, occurs, solved}
use Rattle.model_project.specs.Elimination.{by_bound, by_bounds, by_nearest, by_rest, gap, gaps_are_short, has_variable, is_bound, has_short_numbers, nearer, nearest, is_nearer, on_side, period, put_before, removed, rest_equation, tidied}
use Rattle.model_project.specs.machinery.Steps.{are_narrow, has_divisor}
use Rattle.model_project.proofs.JudgeLemmas.{tidied-narrow}
use Rattle.model_project.specs.Projection.{are_true}
use Rattle.model_project.proofs.NumberLemmas.{abs-zero, le-true, lt-false, lt-true, product_low, zero-times}
use Rattle.model_project.proofs.PeriodLemmas.{period_divides, period_some}
use Rattle.model_project.proofs.PointLemmas.{Moves, put, put-here, put-moves, put-other_value, value_moved}
use Rattle.model_project.proofs.ShiftLemmas.{AllHold, Holds, IsNearest, gap_is, le_of_mul, nearest_is, neither, shifted_true, side_some}
use Rattle.model_project.proofs.SolvedLemmas.{equation_in_holds, lacks, not-false, solved_divisors, solved_extends, solved_gone, solved_lacks, solved_true, true_stays}
use Rattle.model_project.proofs.TidyLemmas.{filter_all, filter_true, tidied_is}
use Rattle.model_project.proofs.TruthLemmas.{lacking, lacks-zero}

-- what a rule that removes a variable keeps
pub record Step (model : List ℤ) (v : ℕ) (lits new : List Lit) : Type 0 where
  pub has_model : are_true model new ≡ true
  pub extends : (p : List ℤ) → are_true p new ≡ true → (x : ℤ) × (are_true (put v x p) lits ≡ true)
  pub gone : lacks v new ≡ true
  pub others : (u : ℕ) → (u ≡ v → ⊥) → lacks u lits ≡ true → lacks u new ≡ true
  pub divisors : list_all has_divisor lits ≡ true → list_all has_divisor new ≡ true
  pub narrow : are_narrow lits ≡ true → are_narrow new ≡ true

-- an equation that holds where the model is moved in the variable alone
pub by_solving : (model q : List ℤ) (v : ℕ) (d : ℤ) (lits new : List Lit) (e : Linear) → Moves v d model q → equation_in v lits ≡ Some e → are_true q lits ≡ true → tidied (solved v lits) ≡ Some new → Step model v lits new
by_solving model q v d lits new e mv found t h =
    let s = solved v lits in
    let is : filter has_variable s ≡ new = tidied_is s new h in
    let gone = solved_gone v lits e found in
    let there : are_true q s ≡ true = solved_true v q lits e found (equation_in_holds v q lits e t found) ∙ t in
    let here : are_true model s ≡ true = sym (true_stays v d model q s mv gone) ∙ there in
    record {
      has_model = ap (are_true model) (sym is) ∙ filter_all (lit_truth model) s here;
      extends = λ p holds. solved_extends v p lits e found (filter_true p model s here (ap (are_true p) is ∙ holds));
      gone = ap (lacks v) (sym is) ∙ filter_all (λ lit. not (occurs v lit)) s gone;
      others = λ u other lack. ap (lacks u) (sym is) ∙ filter_all (λ lit. not (occurs u lit)) s (solved_lacks u v lits e found other lack);
      divisors = λ d. ap (list_all has_divisor) (sym is) ∙ filter_all has_divisor s (solved_divisors v lits e found d);
      narrow = λ n. tidied-narrow s new h;
    }

found_first : (v : ℕ) (e : Linear) (lits : List Lit) → lin_has v e ≡ true → equation_in v (Eq e ∷ lits) ≡ Some e
found_first v e lits has = ap (λ b. cond b (Some e) (equation_in v lits)) has

-- what is given under a test is given
taken : (b : Bool) (o : Option (List Lit)) (new : List Lit) → cond b o None ≡ Some new → o ≡ Some new
taken true o new h = h
taken false o new h = absurd (cc)

put_here : (v : ℕ) (e : Linear) (lits new : List Lit) (b : Bool) → cond b (tidied (solved v (Eq e ∷ lits))) None ≡ Some new → tidied (solved v (Eq e ∷ lits)) ≡ Some new
put_here v e lits new b h = taken b (tidied (solved v (Eq e ∷ lits))) new h

by_putting : (model q : List ℤ) (v : ℕ) (d : ℤ) (lits new : List Lit) (e : Linear) → Moves v d model q → lin_has v e ≡ true → value_at q e ≡ pos 0 → are_true q lits ≡ true → ((u : ℕ) → (u ≡ v → ⊥) → lacks u lits ≡ true → coefficient u e ≡ pos 0)
    → put_before v e lits ≡ Some new → Step model v lits new
by_putting model q v d lits new e mv has zero_there t lack h =
    let all : are_true q (Eq e ∷ lits) ≡ true = ap (λ b. b && are_true q lits) (abs-zero (value_at q e) zero_there) ∙ t in
    let step = by_solving model q v d (Eq e ∷ lits) new e mv (found_first v e lits has) all (put_here v e lits new (has_short_numbers (Eq e)) h) in
    record {
      has_model = step.has_model;
      extends = λ p holds. let x = step.extends p holds in (x.0, (both_true (lit_truth (put v x.0 p) (Eq e)) _ x.1).1);
      gone = step.gone;
      others = λ u other none. step.others u other (ap (λ b. not b && lacks u lits) (lacks-zero u e (lack u other none)) ∙ none);
      divisors = λ d. step.divisors d;
      narrow = λ n. tidied-narrow (solved v (Eq e ∷ lits)) new (put_here v e lits new (has_short_numbers (Eq e)) h);
    }

-- from below the variable goes down, from above up
toward : Bool → ℕ → ℤ
toward true n = neg_ℤ (pos n)
toward false n = pos n

down_side : (c : ℤ) (n : ℕ) → c <ℤ pos 0 → c *ℤ neg_ℤ (pos n) ≡ pos (nat_abs c * n)
down_side (pos a) n h = absurd (omega (arith, ints))
down_side (negsuc a) n h =
    let turned : negsuc a *ℤ neg_ℤ (pos n) ≡ neg_ℤ (neg_ℤ (pos n *ℤ pos (suc a))) = neg_ℤ-*ℤ (pos (suc a)) (neg_ℤ (pos n)) ∙ ap neg_ℤ (*ℤ_comm (pos (suc a)) (neg_ℤ (pos n)) ∙ neg_ℤ-*ℤ (pos n) (pos (suc a))) in
    let whole : n * suc a ≡ suc a * n = omega arith in
    turned ∙ omega (arith, ints, whole)

up_side : (c : ℤ) (n : ℕ) → pos 0 <ℤ c → c *ℤ pos n ≡ pos (nat_abs c * n)
up_side (pos a) n h = refl
up_side (negsuc a) n h = absurd (omega (arith, ints))

same_side : (below : Bool) (c : ℤ) (n : ℕ) → on_side below c ≡ true → c *ℤ toward below n ≡ pos (nat_abs c * n)
unfolding toward
same_side true c n h = down_side c n (lt-true c (pos 0) h)
same_side false c n h = up_side c n (lt-true (pos 0) c h)

toward_multiple : (below : Bool) (k n : ℕ) → toward below (k * n) ≡ toward below k *ℤ pos n
unfolding toward
toward_multiple true k n = sym (neg_ℤ-*ℤ (pos k) (pos n))
toward_multiple false k n = refl

-- a bound holds where the move is no more than the least gap
near_enough : (g a m c n : ℕ) → 0 < a → g * c ≤ m * a → a * n ≤ g → c * n ≤ m
near_enough g a m c n some le within =
    let more : a * n * c ≤ g * c = mul-le-mul_right c within in
    le_of_mul (c * n) m a some (omega (arith, le, more))

other_side : (below : Bool) (c : ℤ) (n : ℕ) → on_side below c ≡ false → (below ≡ false → int_lt c (pos 0) ≡ false) → (c *ℤ toward below n) ≤ℤ pos 0
unfolding toward
other_side true c n h free = let high = lt-false c (pos 0) h in product_low c (neg_ℤ (pos n)) high (omega (arith, ints))
other_side false c n h free =
    let low = lt-false (pos 0) c h in
    let high = lt-false c (pos 0) (free refl) in
    let none : c ≡ pos 0 = omega (arith, ints, low, high) in
    let e : c *ℤ pos n ≡ pos 0 = ap (λ z. z *ℤ pos n) none ∙ zero-times (pos n) in
    omega (arith, ints, e)

le_holds : (p : List ℤ) (below : Bool) (v : ℕ) (lin m : Linear) (n : ℕ) (b : Bool) → on_side below (coefficient v m) ≡ b → 0 < nat_abs (coefficient v lin) → nat_abs (coefficient v lin) * n ≤ gap p lin → value_at p m ≤ℤ pos 0
    → (b ≡ true → gap p lin * nat_abs (coefficient v m) ≤ gap p m * nat_abs (coefficient v lin)) → (below ≡ false → int_lt (coefficient v m) (pos 0) ≡ false) → (value_at p m +ℤ coefficient v m *ℤ toward below n) ≤ℤ pos 0
le_holds p below v lin m n true e some within low near free =
    let far = near_enough (gap p lin) (nat_abs (coefficient v lin)) (gap p m) (nat_abs (coefficient v m)) n some (near refl) within in
    let product = same_side below (coefficient v m) n e in
    let g = gap_is p m low in
    omega (arith, ints, far, product, g)
le_holds p below v lin m n false e some within low near free = let product = other_side below (coefficient v m) n e free in omega (arith, ints, product, low)

lit_holds : (p : List ℤ) (below : Bool) (v : ℕ) (lin : Linear) (n : ℕ) (lit : Lit) → 0 < nat_abs (coefficient v lin) → nat_abs (coefficient v lin) * n ≤ gap p lin → lit_truth p lit ≡ true
    → (is_bound below v lit ≡ true → gap p lin * nat_abs (coefficient v (linear_of lit)) ≤ gap p (linear_of lit) * nat_abs (coefficient v lin)) → (below ≡ false → is_bound true v lit ≡ false) → Holds v (toward below n) p lit
lit_holds p below v lin n (Le m) some within t near free = le_holds p below v lin m n (on_side below (coefficient v m)) refl some within (le-true _ _ t) near free
lit_holds p below v lin n (Eq m) some within t near free = tt
lit_holds p below v lin n (Div d m) some within t near free = tt
lit_holds p below v lin n (NDiv d m) some within t near free = tt

all_hold : (p : List ℤ) (below : Bool) (v : ℕ) (lin : Linear) (n : ℕ) (lits : List Lit) → 0 < nat_abs (coefficient v lin) → nat_abs (coefficient v lin) * n ≤ gap p lin → are_true p lits ≡ true → IsNearest p below v lin lits → (below ≡ false → list_any (is_bound true v) lits ≡ false)
    → AllHold v (toward below n) p lits
all_hold p below v lin n [] some within t near free = tt
all_hold p below v lin n (lit ∷ lits) some within t near free =
    let both = both_true (lit_truth p lit) _ t in (
      lit_holds p below v lin n lit some within both.0 near.0 (λ e. (neither (is_bound true v lit) _ (free e)).0),
      all_hold p below v lin n lits some within both.1 near.1 (λ e. (neither (is_bound true v lit) _ (free e)).1),
    )

-- the nearest bound has no variable that the literals lack
nearer_lacks : (u : ℕ) (lin a other : Linear) (b : Bool) → coefficient u a ≡ pos 0 → coefficient u other ≡ pos 0 → cond b (Some other) (Some a) ≡ Some lin → coefficient u lin ≡ pos 0
nearer_lacks u lin a other true none there h = let same : other ≡ lin = cc in ap (coefficient u) (sym same) ∙ there
nearer_lacks u lin a other false none there h = let same : a ≡ lin = cc in ap (coefficient u) (sym same) ∙ none

nearest_by_lacks : (p : List ℤ) (u v : ℕ) (lin a : Linear) (o : Option Linear) → coefficient u a ≡ pos 0 → ((other : Linear) → o ≡ Some other → coefficient u other ≡ pos 0) → nearer p v a o ≡ Some lin → coefficient u lin ≡ pos 0
nearest_by_lacks p u v lin a None none rest h = let same : a ≡ lin = cc in ap (coefficient u) (sym same) ∙ none
nearest_by_lacks p u v lin a (Some other) none rest h = nearer_lacks u lin a other (is_nearer p v other a) none (rest other refl) h

nearest_lacks_step : (p : List ℤ) (below : Bool) (u v : ℕ) (lit : Lit) (lits : List Lit) (lin : Linear) (b : Bool) → coefficient u (linear_of lit) ≡ pos 0 → ((other : Linear) → nearest p below v lits ≡ Some other → coefficient u other ≡ pos 0)
    → cond b (nearer p v (linear_of lit) (nearest p below v lits)) (nearest p below v lits) ≡ Some lin → coefficient u lin ≡ pos 0
nearest_lacks_step p below u v lit lits lin true none rest h = nearest_by_lacks p u v lin (linear_of lit) (nearest p below v lits) none rest h
nearest_lacks_step p below u v lit lits lin false none rest h = rest lin h

nearest_lacks : (p : List ℤ) (below : Bool) (u v : ℕ) (lits : List Lit) (lin : Linear) → lacks u lits ≡ true → nearest p below v lits ≡ Some lin → coefficient u lin ≡ pos 0
nearest_lacks p below u v [] lin lack h = absurd (cc)
nearest_lacks p below u v (lit ∷ lits) lin lack h =
    let both = both_true (not (occurs u lit)) _ lack in
    nearest_lacks_step p below u v lit lits lin (is_bound below v lit) (lacking u (linear_of lit) (not-false _ both.0)) (λ other e. nearest_lacks p below u v lits other both.1 e) h

-- rules 3 and 4
bound_here : (model : List ℤ) (v : ℕ) (lits new : List Lit) (d : ℕ) (lin : Linear) (b : Bool) → cond b (put_before v (plus lin (pos (gap model lin % (nat_abs (coefficient v lin) * d)))) lits) None ≡ Some new → put_before v (plus lin (pos (gap model lin % (nat_abs (coefficient v lin) * d)))) lits ≡ Some new
bound_here model v lits new d lin b h = taken b (put_before v (plus lin (pos (gap model lin % (nat_abs (coefficient v lin) * d)))) lits) new h

some-has : (c : ℤ) → 0 < nat_abs c → nat_lt 0 (nat_abs c) ≡ true
some-has c h = grind (arith, nat_tests)

by_nearest_bound : (model : List ℤ) (below : Bool) (v : ℕ) (lits new : List Lit) (lin : Linear) → are_true model lits ≡ true → list_any (is_equation v) lits ≡ false → (below ≡ false → list_any (is_bound true v) lits ≡ false)
    → nearest model below v lits ≡ Some lin → by_bound model v lits (period v lits) lin ≡ Some new → Step model v lits new
by_nearest_bound model below v lits new lin t free_eq free found h =
    let near = nearest_is model below v lits lin t found in
    let c = coefficient v lin in
    let some = side_some below c near.side in
    let n = period v lits in
    let g = gap model lin in
    let w = nat_abs c * n in
    let k = g / w in
    let r = g % w in
    let whole : w * k + r ≡ g = div-add-mod g w in
    let within : nat_abs c * (k * n) ≤ g = omega (arith, whole) in
    let d = toward below (k * n) in
    let mv = put-moves v d model in
    let q = put v (variable_at model v +ℤ d) model in
    let holds = all_hold model below v lin (k * n) lits some within t near.least free in
    let all = shifted_true v d (toward below k) n model q lits mv (toward_multiple below k n) free_eq (period_divides v lits) holds t in
    let moved = value_moved v d model q lin mv in
    let product = same_side below c (k * n) near.side in
    let before = gap_is model lin near.holds in
    let sum : nat_abs c * (k * n) + r ≡ g = omega (arith, whole) in
    by_putting model q v d lits new (plus lin (pos r)) mv (some-has c some) (omega (arith, ints, moved, product, before, sum)) all (λ u other lack. nearest_lacks model below u v lits lin lack found)
    (bound_here model v lits new n lin (nat_lt n (2 ^ 63) && nat_lt w (2 ^ 63)) h)

by_nearest_step : (model : List ℤ) (below : Bool) (v : ℕ) (lits new : List Lit) (o : Option Linear) → nearest model below v lits ≡ o → are_true model lits ≡ true → list_any (is_equation v) lits ≡ false → (below ≡ false → list_any (is_bound true v) lits ≡ false)
    → by_nearest model v lits o ≡ Some new → Step model v lits new
by_nearest_step model below v lits new None found t free_eq free h = absurd (cc)
by_nearest_step model below v lits new (Some lin) found t free_eq free h = by_nearest_bound model below v lits new lin t free_eq free found h

bounds_here : (model : List ℤ) (below : Bool) (v : ℕ) (lits new : List Lit) (b : Bool) → are_true model lits ≡ true → list_any (is_equation v) lits ≡ false → (below ≡ false → list_any (is_bound true v) lits ≡ false)
    → cond b (by_nearest model v lits (nearest model below v lits)) None ≡ Some new → Step model v lits new
bounds_here model below v lits new true t free_eq free h = by_nearest_step model below v lits new (nearest model below v lits) refl t free_eq free h
bounds_here model below v lits new false t free_eq free h = absurd (cc)

by_bounds_step : (model : List ℤ) (below : Bool) (v : ℕ) (lits new : List Lit) → are_true model lits ≡ true → list_any (is_equation v) lits ≡ false → (below ≡ false → list_any (is_bound true v) lits ≡ false) → by_bounds model below v lits ≡ Some new → Step model v lits new
by_bounds_step model below v lits new t free_eq free h = bounds_here model below v lits new (gaps_are_short model below v lits) t free_eq free h

-- rule 5: without bounds nothing but the divisors matters
unbound : (v : ℕ) (d : ℤ) (p : List ℤ) (lit : Lit) → lit_truth p lit ≡ true → is_bound true v lit ≡ false → is_bound false v lit ≡ false → Holds v d p lit
unbound v d p (Le m) t low high =
    let first = lt-false (coefficient v m) (pos 0) low in
    let second = lt-false (pos 0) (coefficient v m) high in
    let none : coefficient v m ≡ pos 0 = omega (arith, ints, first, second) in
    let e : coefficient v m *ℤ d ≡ pos 0 = ap (λ z. z *ℤ d) none ∙ zero-times d in
    let le = le-true (value_at p m) (pos 0) t in
    omega (arith, ints, e, le)
unbound v d p (Eq m) t low high = tt
unbound v d p (Div n m) t low high = tt
unbound v d p (NDiv n m) t low high = tt

all_unbound : (v : ℕ) (d : ℤ) (p : List ℤ) (lits : List Lit) → are_true p lits ≡ true → list_any (is_bound true v) lits ≡ false → list_any (is_bound false v) lits ≡ false → AllHold v d p lits
all_unbound v d p [] t low high = tt
all_unbound v d p (lit ∷ lits) t low high =
    let both = both_true (lit_truth p lit) _ t in
    let first = neither (is_bound true v lit) _ low in
    let second = neither (is_bound false v lit) _ high in
    (unbound v d p lit both.0 first.0 second.0, all_unbound v d p lits both.1 first.1 second.1)

rest_here : (model : List ℤ) (v : ℕ) (lits new : List Lit) (b : Bool) → cond b (put_before v (rest_equation v (int_rem_euclid (variable_at model v) (pos (period v lits)))) lits) None ≡ Some new
    → put_before v (rest_equation v (int_rem_euclid (variable_at model v) (pos (period v lits)))) lits ≡ Some new
rest_here model v lits new b h = taken b (put_before v (rest_equation v (int_rem_euclid (variable_at model v) (pos (period v lits)))) lits) new h

rest_value : (v : ℕ) (r : ℤ) (q : List ℤ) → variable_at q v ≡ r → value_at q (rest_equation v r) ≡ pos 0
rest_value v r q h =
    let one : pos 1 *ℤ variable_at q v ≡ pos 1 *ℤ r = ap (λ z. pos 1 *ℤ z) h in
    omega (arith, ints, one)

same_test : (n : ℕ) → (n == n) ≡ true
same_test n = grind (arith, nat_tests)

rest_has : (v : ℕ) (r : ℤ) → lin_has v (rest_equation v r) ≡ true
rest_has v r = ap (λ b. nat_lt 0 (nat_abs (cond b (pos 1 +ℤ pos 0) (pos 0)))) (same_test v)

rest_lacks : (u v : ℕ) (b : Bool) → (v == u) ≡ b → (u ≡ v → ⊥) → cond b (pos 1 +ℤ pos 0) (pos 0) ≡ pos 0
rest_lacks u v true e other = absurd (other (sym (eqb-true _ _ e)))
rest_lacks u v false e other = refl

some_period : (n : ℕ) (b : Bool) (new : List Lit) (o : Option (List Lit)) → nat_lt n (2 ^ 63) ≡ b → cond b o None ≡ Some new → o ≡ Some new
some_period n true new o e h = h
some_period n false new o e h = absurd (cc)

by_rest_step : (model : List ℤ) (v : ℕ) (lits new : List Lit) → list_all has_divisor lits ≡ true → are_true model lits ≡ true → list_any (is_equation v) lits ≡ false → list_any (is_bound true v) lits ≡ false → list_any (is_bound false v) lits ≡ false → by_rest model v lits ≡ Some new
    → Step model v lits new
by_rest_step model v lits new divs t free low high h =
    let some = period_some v lits divs in
    let n = period v lits in
    let x = variable_at model v in
    let r = int_rem_euclid x (pos n) in
    let j = neg_ℤ (int_div_euclid x (pos n)) in
    let whole = quotient-rest x (pos n) (omega (arith, ints, some)) in
    let turned = neg_ℤ-*ℤ (int_div_euclid x (pos n)) (pos n) in
    let d = r -ℤ x in
    let q = put v r model in
    let mv = put-other_value v r model in
    let times : d ≡ j *ℤ pos n = omega (arith, ints, whole, turned) in
    let all = shifted_true v d j n model q lits mv times free (period_divides v lits) (all_unbound v d model lits t low high) t in
    by_putting model q v d lits new (rest_equation v r) mv (rest_has v r) (rest_value v r q (put-here v r model)) all (λ u other lack. rest_lacks u v (v == u) refl other)
    (some_period n (nat_lt n (2 ^ 63)) new (put_before v (rest_equation v r) lits) refl h)

-- rule 1: nothing changes
nowhere : (v : ℕ) (lits : List Lit) → list_any (occurs v) lits ≡ false → lacks v lits ≡ true
nowhere v [] h = refl
nowhere v (lit ∷ lits) h = let parts = neither (occurs v lit) _ h in ap (λ b. not b && lacks v lits) parts.0 ∙ nowhere v lits parts.1

unchanged : (model : List ℤ) (v : ℕ) (lits new : List Lit) → lits ≡ new → are_true model lits ≡ true → lacks v lits ≡ true → Step model v lits new
unchanged model v lits new same t lack = subst (λ xs. Step model v lits xs) same (record {
  has_model = t;
  extends = λ p holds. (variable_at p v, true_stays v (variable_at p v -ℤ variable_at p v) p (put v (variable_at p v) p) lits (put-other_value v (variable_at p v) p) lack ∙ holds);
  gone = lack;
  others = λ u other h. h;
  divisors = λ d. d;
  narrow = λ n. n;
})

there_here : (v : ℕ) (lit : Lit) (lits : List Lit) (b : Bool) → is_equation v lit ≡ b → (b || list_any (is_equation v) lits) ≡ true → (list_any (is_equation v) lits ≡ true → (e : Linear) × (equation_in v lits ≡ Some e)) → (e : Linear) × (cond b (Some (linear_of lit)) (equation_in v lits) ≡ Some e)
there_here v lit lits true is h rest = (linear_of lit, refl)
there_here v lit lits false is h rest = rest h

equation_there : (v : ℕ) (lits : List Lit) → list_any (is_equation v) lits ≡ true → (e : Linear) × (equation_in v lits ≡ Some e)
equation_there v [] h = absurd (cc)
equation_there v (lit ∷ lits) h = there_here v lit lits (is_equation v lit) refl h (equation_there v lits)

by_rules : (model : List ℤ) (v : ℕ) (lits new : List Lit) (some here below above : Bool) → list_any (occurs v) lits ≡ some → list_any (is_equation v) lits ≡ here → list_any (is_bound true v) lits ≡ below → list_any (is_bound false v) lits ≡ above
    → list_all has_divisor lits ≡ true → are_true model lits ≡ true
    → cond (not some) (Some lits) (cond here (tidied (solved v lits)) (cond below (by_bounds model true v lits) (cond above (by_bounds model false v lits) (by_rest model v lits)))) ≡ Some new → Step model v lits new
by_rules model v lits new false here below above e f g k n t h = unchanged model v lits new (cc) t (nowhere v lits e)
by_rules model v lits new true true below above e f g k n t h =
    let found = equation_there v lits f in
    by_solving model model v (pos 0) lits new found.0 (record { here = omega (arith, ints); others = λ u other. refl }) found.1 t h
by_rules model v lits new true false true above e f g k n t h = by_bounds_step model true v lits new t f (λ b. absurd (cc)) h
by_rules model v lits new true false false true e f g k n t h = by_bounds_step model false v lits new t f (λ b. g) h
by_rules model v lits new true false false false e f g k n t h = by_rest_step model v lits new n t f g k h

pub removed_step : (model : List ℤ) (v : ℕ) (lits new : List Lit) → list_all has_divisor lits ≡ true → are_true model lits ≡ true → removed model v lits ≡ Some new → Step model v lits new
removed_step model v lits new n t h = by_rules model v lits new (list_any (occurs v) lits) (list_any (is_equation v) lits) (list_any (is_bound true v) lits) (list_any (is_bound false v) lits) refl refl refl refl n t h
