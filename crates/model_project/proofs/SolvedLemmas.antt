-- A variable is removed by an equation: the list that is left, its truth, and its variables.
use Rattle.std.proofs.Common.{◌≡◌, ◌<◌, ◌*◌, ◌&&◌, ◌++◌, ℕ, suc, zero, List, [], ◌∷◌, refl, ap, sym, ◌∙◌, arith, true, false, Bool, ◌==◌, cond, not, Some}
use Rattle.std.specs.Prelude.{ℤ, pos, ◌-ℤ◌, ◌<ℤ◌, nat_abs, nat_lt}
use Rattle.std.specs.List.{list_all}
use Rattle.std.proofs.lemmas.List.Folds.{list_all-append}
use Rattle.lin_atoms.specs.Linear.{Linear, value_at, variable_at}
use Rattle.lin_atoms.specs.Denial.{linear_of}
use Rattle.lin_atoms.specs.Truth.{lit_truth}
use Rattle.lin_atoms.specs.declared.lit.Lit.{Lit}
use Rattle.lin_atoms.specs.declared.lit.Lit.TheVariants.{Le, Eq, Div, NDiv}
use Rattle.lin_atoms.proofs.Public.{both_true}
use Rattle.model_project.specs.Substitution.{by_equation, coefficient, crossed_lit, equation_in, is_equation, left_over, lin_has, occurs, replaced, solved, substituted, upright, without}
use Rattle.model_project.specs.machinery.Steps.{has_divisor}
use Rattle.model_project.specs.Projection.{are_true}
use Rattle.model_project.proofs.NumberLemmas.{abs-zero, zero-abs}
use Rattle.std.proofs.lemmas.Int.{ints}
use Rattle.std.proofs.lemmas.Bool.{ltb-true}
use Rattle.std.proofs.lemmas.Bool.Decides.{nat_tests}
use Rattle.model_project.proofs.PointLemmas.{Moves, put, put-other_value, without-gone, without-stays}
use Rattle.model_project.proofs.TruthLemmas.{lacking, lacks-zero, left_over_true, root, substituted_gone, substituted_lacks, substituted_truth, truth_stays, upright_positive, upright_value, upright_zero}

pub false-not : (b : Bool) → b ≡ false → not b ≡ true
false-not b h = ap not h

pub not-false : (b : Bool) → not b ≡ true → b ≡ false
not-false true h = sym h
not-false false h = refl

-- no literal has the variable
abbrev pub lacks : ℕ → List Lit → Bool
lacks v lits = list_all (λ lit. not (occurs v lit)) lits

-- a literal that is an equation
equation_truth : (v : ℕ) (q : List ℤ) (lit : Lit) → is_equation v lit ≡ true → value_at q (linear_of lit) ≡ pos 0 → lit_truth q lit ≡ true
equation_truth v q (Le lin) is h = absurd (cc)
equation_truth v q (Eq lin) is h = abs-zero (value_at q lin) h
equation_truth v q (Div d lin) is h = absurd (cc)
equation_truth v q (NDiv d lin) is h = absurd (cc)

equation_value : (v : ℕ) (q : List ℤ) (lit : Lit) → is_equation v lit ≡ true → lit_truth q lit ≡ true → value_at q (linear_of lit) ≡ pos 0
equation_value v q (Le lin) is h = absurd (cc)
equation_value v q (Eq lin) is h = zero-abs (value_at q lin) h
equation_value v q (Div d lin) is h = absurd (cc)
equation_value v q (NDiv d lin) is h = absurd (cc)

equation_has : (v : ℕ) (lit : Lit) → is_equation v lit ≡ true → lin_has v (linear_of lit) ≡ true
equation_has v (Le lin) is = absurd (cc)
equation_has v (Eq lin) is = is
equation_has v (Div d lin) is = absurd (cc)
equation_has v (NDiv d lin) is = absurd (cc)

-- the first equation has the variable, and holds where all literals do
in_here : (v : ℕ) (lit : Lit) (lits : List Lit) (e : Linear) (b : Bool) → is_equation v lit ≡ b → (equation_in v lits ≡ Some e → lin_has v e ≡ true) → cond b (Some (linear_of lit)) (equation_in v lits) ≡ Some e → lin_has v e ≡ true
in_here v lit lits e true is rest h = let same : linear_of lit ≡ e = cc in ap (lin_has v) (sym same) ∙ equation_has v lit is
in_here v lit lits e false is rest h = rest h

pub equation_in_has : (v : ℕ) (lits : List Lit) (e : Linear) → equation_in v lits ≡ Some e → lin_has v e ≡ true
equation_in_has v [] e h = absurd (cc)
equation_in_has v (lit ∷ lits) e h = in_here v lit lits e (is_equation v lit) refl (equation_in_has v lits e) h

holds_here : (v : ℕ) (q : List ℤ) (lit : Lit) (lits : List Lit) (e : Linear) (b : Bool) → is_equation v lit ≡ b → lit_truth q lit ≡ true → (equation_in v lits ≡ Some e → value_at q e ≡ pos 0) → cond b (Some (linear_of lit)) (equation_in v lits) ≡ Some e → value_at q e ≡ pos 0
holds_here v q lit lits e true is t rest h = let same : linear_of lit ≡ e = cc in ap (value_at q) (sym same) ∙ equation_value v q lit is t
holds_here v q lit lits e false is t rest h = rest h

pub equation_in_holds : (v : ℕ) (q : List ℤ) (lits : List Lit) (e : Linear) → are_true q lits ≡ true → equation_in v lits ≡ Some e → value_at q e ≡ pos 0
equation_in_holds v q [] e t h = absurd (cc)
equation_in_holds v q (lit ∷ lits) e t h =
    let both = both_true (lit_truth q lit) _ t in
    holds_here v q lit lits e (is_equation v lit) refl both.0 (equation_in_holds v q lits e both.1) h

lacks_here : (u v : ℕ) (lit : Lit) (lits : List Lit) (e : Linear) (b : Bool) → occurs u lit ≡ false → (equation_in v lits ≡ Some e → coefficient u e ≡ pos 0) → cond b (Some (linear_of lit)) (equation_in v lits) ≡ Some e → coefficient u e ≡ pos 0
lacks_here u v lit lits e true none rest h = let same : linear_of lit ≡ e = cc in ap (coefficient u) (sym same) ∙ lacking u (linear_of lit) none
lacks_here u v lit lits e false none rest h = rest h

equation_in_lacks : (u v : ℕ) (lits : List Lit) (e : Linear) → lacks u lits ≡ true → equation_in v lits ≡ Some e → coefficient u e ≡ pos 0
equation_in_lacks u v [] e t h = absurd (cc)
equation_in_lacks u v (lit ∷ lits) e t h =
    let both = both_true (not (occurs u lit)) _ t in
    lacks_here u v lit lits e (is_equation v lit) (not-false _ both.0) (equation_in_lacks u v lits e both.1) h

-- truth: where the equation holds, the list is as true as it was
came_true : (v : ℕ) (q : List ℤ) (l : Linear) (lits : List Lit) → pos 0 <ℤ coefficient v l → value_at q l ≡ pos 0 → are_true q (replaced v l true lits) ≡ are_true q lits
came_true v q l [] some h = refl
came_true v q l (lit ∷ lits) some h = let first = substituted_truth v q l lit some h in let rest = came_true v q l lits some h in cc

first_true : (v : ℕ) (q : List ℤ) (l e : Linear) (lit : Lit) (lits : List Lit) (b : Bool) → is_equation v lit ≡ b → pos 0 <ℤ coefficient v l → value_at q l ≡ pos 0 → value_at q e ≡ pos 0
    → (equation_in v lits ≡ Some e → are_true q (replaced v l false lits) ≡ are_true q lits) → cond b (Some (linear_of lit)) (equation_in v lits) ≡ Some e
    → are_true q (cond b (left_over v l ++ replaced v l true lits) (substituted v l lit ∷ replaced v l false lits)) ≡ (lit_truth q lit && are_true q lits)
first_true v q l e lit lits true is some h g rest found =
    let same : linear_of lit ≡ e = cc in
    let here = equation_truth v q lit is (ap (value_at q) same ∙ g) in
    let left = left_over_true v q l some h in
    let more = came_true v q l lits some h in
    let parts = list_all-append (lit_truth q) (left_over v l) (replaced v l true lits) in
    parts ∙ ap (λ b. b && are_true q (replaced v l true lits)) left ∙ more ∙ ap (λ b. b && are_true q lits) (sym here)
first_true v q l e lit lits false is some h g rest found = let first = substituted_truth v q l lit some h in let more = rest found in cc

replaced_true : (v : ℕ) (q : List ℤ) (l e : Linear) (lits : List Lit) → pos 0 <ℤ coefficient v l → value_at q l ≡ pos 0 → value_at q e ≡ pos 0 → equation_in v lits ≡ Some e → are_true q (replaced v l false lits) ≡ are_true q lits
replaced_true v q l e [] some h g found = absurd (cc)
replaced_true v q l e (lit ∷ lits) some h g found = first_true v q l e lit lits (is_equation v lit) refl some h g (replaced_true v q l e lits some h g) found

solved_is : (v : ℕ) (lits : List Lit) (e : Linear) → equation_in v lits ≡ Some e → solved v lits ≡ replaced v (upright v e) false lits
solved_is v lits e found = ap (λ o. by_equation v o lits) found

pub solved_true : (v : ℕ) (q : List ℤ) (lits : List Lit) (e : Linear) → equation_in v lits ≡ Some e → value_at q e ≡ pos 0 → are_true q (solved v lits) ≡ are_true q lits
solved_true v q lits e found h =
    ap (are_true q) (solved_is v lits e found) ∙ replaced_true v q (upright v e) e lits (upright_positive v e (equation_in_has v lits e found)) ((upright_value v q e).1 h) h found

-- variables: the one is gone, and no other comes
left_gone : (v : ℕ) (l : Linear) (b : Bool) → lacks v (cond b [] (Div (nat_abs (coefficient v l)) (without v l) ∷ [])) ≡ true
left_gone v l true = refl
left_gone v l false = ap (λ b. not b && true) (lacks-zero v (without v l) (without-gone v l))

left_lacks : (u v : ℕ) (l : Linear) (b : Bool) → (u ≡ v → ⊥) → coefficient u l ≡ pos 0 → lacks u (cond b [] (Div (nat_abs (coefficient v l)) (without v l) ∷ [])) ≡ true
left_lacks u v l true other h = refl
left_lacks u v l false other h = ap (λ b. not b && true) (lacks-zero u (without v l) (without-stays u v l other ∙ h))

lacks-++ : (v : ℕ) (xs ys : List Lit) → lacks v xs ≡ true → lacks v ys ≡ true → lacks v (xs ++ ys) ≡ true
lacks-++ v xs ys h g = list_all-append (λ lit. not (occurs v lit)) xs ys ∙ ap (λ b. b && lacks v ys) h ∙ g

lacks-cons : (v : ℕ) (lit : Lit) (lits : List Lit) → occurs v lit ≡ false → lacks v lits ≡ true → lacks v (lit ∷ lits) ≡ true
lacks-cons v lit lits h g = ap (λ b. not b && lacks v lits) h ∙ g

gone_step : (v : ℕ) (l : Linear) (lit : Lit) (came b : Bool) (us ts : List Lit) → lacks v us ≡ true → lacks v ts ≡ true → lacks v (cond b (left_over v l ++ us) (substituted v l lit ∷ ts)) ≡ true
gone_step v l lit came true us ts h g = lacks-++ v (left_over v l) us (left_gone v l (nat_abs (coefficient v l) == 1)) h
gone_step v l lit came false us ts h g = lacks-cons v (substituted v l lit) ts (substituted_gone v l lit) g

replaced_gone : (v : ℕ) (l : Linear) (came : Bool) (lits : List Lit) → lacks v (replaced v l came lits) ≡ true
replaced_gone v l came [] = refl
replaced_gone v l came (lit ∷ lits) = gone_step v l lit came (not came && is_equation v lit) (replaced v l true lits) (replaced v l came lits) (replaced_gone v l true lits) (replaced_gone v l came lits)

pub solved_gone : (v : ℕ) (lits : List Lit) (e : Linear) → equation_in v lits ≡ Some e → lacks v (solved v lits) ≡ true
solved_gone v lits e found = ap (lacks v) (solved_is v lits e found) ∙ replaced_gone v (upright v e) false lits

lacks_step : (u v : ℕ) (l : Linear) (lit : Lit) (b : Bool) (us ts : List Lit) → (u ≡ v → ⊥) → coefficient u l ≡ pos 0 → occurs u lit ≡ false → lacks u us ≡ true → lacks u ts ≡ true → lacks u (cond b (left_over v l ++ us) (substituted v l lit ∷ ts)) ≡ true
lacks_step u v l lit true us ts other none here h g = lacks-++ u (left_over v l) us (left_lacks u v l (nat_abs (coefficient v l) == 1) other none) h
lacks_step u v l lit false us ts other none here h g = lacks-cons u (substituted v l lit) ts (substituted_lacks u v l lit none here) g

replaced_lacks : (u v : ℕ) (l : Linear) (came : Bool) (lits : List Lit) → (u ≡ v → ⊥) → coefficient u l ≡ pos 0 → lacks u lits ≡ true → lacks u (replaced v l came lits) ≡ true
replaced_lacks u v l came [] other none h = refl
replaced_lacks u v l came (lit ∷ lits) other none h =
    let both = both_true (not (occurs u lit)) _ h in
    lacks_step u v l lit (not came && is_equation v lit) (replaced v l true lits) (replaced v l came lits) other none (not-false _ both.0) (replaced_lacks u v l true lits other none both.1) (replaced_lacks u v l came lits other none both.1)

pub solved_lacks : (u v : ℕ) (lits : List Lit) (e : Linear) → equation_in v lits ≡ Some e → (u ≡ v → ⊥) → lacks u lits ≡ true → lacks u (solved v lits) ≡ true
solved_lacks u v lits e found other h =
    ap (lacks u) (solved_is v lits e found) ∙ replaced_lacks u v (upright v e) false lits other (upright_zero u v e (equation_in_lacks u v lits e h found)) h

-- truth does not depend on a variable that no literal has
pub true_stays : (v : ℕ) (d : ℤ) (p q : List ℤ) (lits : List Lit) → Moves v d p q → lacks v lits ≡ true → are_true q lits ≡ are_true p lits
true_stays v d p q [] m h = refl
true_stays v d p q (lit ∷ lits) m h =
    let both = both_true (not (occurs v lit)) _ h in
    let first = truth_stays v d p q lit m (not-false _ both.0) in
    let rest = true_stays v d p q lits m both.1 in
    cc

-- what the equation left is among the literals
left_step : (v : ℕ) (p : List ℤ) (l e : Linear) (lit : Lit) (lits : List Lit) (b : Bool) → is_equation v lit ≡ b → (equation_in v lits ≡ Some e → are_true p (replaced v l false lits) ≡ true → are_true p (left_over v l) ≡ true)
    → cond b (Some (linear_of lit)) (equation_in v lits) ≡ Some e → are_true p (cond b (left_over v l ++ replaced v l true lits) (substituted v l lit ∷ replaced v l false lits)) ≡ true → are_true p (left_over v l) ≡ true
left_step v p l e lit lits true is rest found t = (both_true (are_true p (left_over v l)) _ (sym (list_all-append (lit_truth p) (left_over v l) (replaced v l true lits)) ∙ t)).0
left_step v p l e lit lits false is rest found t = rest found (both_true (lit_truth p (substituted v l lit)) _ t).1

left_among : (v : ℕ) (p : List ℤ) (l e : Linear) (lits : List Lit) → equation_in v lits ≡ Some e → are_true p (replaced v l false lits) ≡ true → are_true p (left_over v l) ≡ true
left_among v p l e [] found t = absurd (cc)
left_among v p l e (lit ∷ lits) found t = left_step v p l e lit lits (is_equation v lit) refl (left_among v p l e lits) found t

-- each point of the list that is left extends
pub solved_extends : (v : ℕ) (p : List ℤ) (lits : List Lit) (e : Linear) → equation_in v lits ≡ Some e → are_true p (solved v lits) ≡ true → (x : ℤ) × (are_true (put v x p) lits ≡ true)
solved_extends v p lits e found t =
    let l = upright v e in
    let some = upright_positive v e (equation_in_has v lits e found) in
    let left = left_among v p l e lits found (ap (are_true p) (sym (solved_is v lits e found)) ∙ t) in
    let r = root v p l some left in
    let zero_there = (upright_value v (put v r.0 p) e).0 r.1 in
    (r.0, sym (solved_true v (put v r.0 p) lits e found zero_there) ∙ true_stays v (r.0 -ℤ variable_at p v) p (put v r.0 p) (solved v lits) (put-other_value v r.0 p) (solved_gone v lits e found) ∙ t)

-- divisors stay above 0
times_some : (a d : ℕ) → 0 < a → 0 < d → 0 < a * d
times_some (suc a) (suc d) h g = omega arith
times_some zero d h g = absurd (omega arith)
times_some (suc a) zero h g = absurd (omega arith)

divisor_test : (n : ℕ) → 0 < n → nat_lt 0 n ≡ true
divisor_test n h = grind (arith, nat_tests)

crossed_divisor : (v : ℕ) (l : Linear) (lit : Lit) → 0 < nat_abs (coefficient v l) → has_divisor lit ≡ true → has_divisor (crossed_lit v l lit) ≡ true
crossed_divisor v l (Le m) some h = refl
crossed_divisor v l (Eq m) some h = refl
crossed_divisor v l (Div d m) some h = divisor_test (nat_abs (coefficient v l) * d) (times_some (nat_abs (coefficient v l)) d some (ltb-true _ _ h))
crossed_divisor v l (NDiv d m) some h = divisor_test (nat_abs (coefficient v l) * d) (times_some (nat_abs (coefficient v l)) d some (ltb-true _ _ h))

divisor_here : (v : ℕ) (l : Linear) (lit : Lit) (b : Bool) → 0 < nat_abs (coefficient v l) → has_divisor lit ≡ true → has_divisor (cond b (crossed_lit v l lit) lit) ≡ true
divisor_here v l lit true some h = crossed_divisor v l lit some h
divisor_here v l lit false some h = h

left_divisor : (v : ℕ) (l : Linear) (b : Bool) → 0 < nat_abs (coefficient v l) → list_all has_divisor (cond b [] (Div (nat_abs (coefficient v l)) (without v l) ∷ [])) ≡ true
left_divisor v l true some = refl
left_divisor v l false some = ap (λ b. b && true) (divisor_test (nat_abs (coefficient v l)) some)

divisors_step : (v : ℕ) (l : Linear) (lit : Lit) (b : Bool) (us ts : List Lit) → 0 < nat_abs (coefficient v l) → has_divisor lit ≡ true → list_all has_divisor us ≡ true → list_all has_divisor ts ≡ true
    → list_all has_divisor (cond b (left_over v l ++ us) (substituted v l lit ∷ ts)) ≡ true
divisors_step v l lit true us ts some d h g = list_all-append has_divisor (left_over v l) us ∙ ap (λ b. b && list_all has_divisor us) (left_divisor v l (nat_abs (coefficient v l) == 1) some) ∙ h
divisors_step v l lit false us ts some d h g = ap (λ b. b && list_all has_divisor ts) (divisor_here v l lit (occurs v lit) some d) ∙ g

replaced_divisors : (v : ℕ) (l : Linear) (came : Bool) (lits : List Lit) → 0 < nat_abs (coefficient v l) → list_all has_divisor lits ≡ true → list_all has_divisor (replaced v l came lits) ≡ true
replaced_divisors v l came [] some h = refl
replaced_divisors v l came (lit ∷ lits) some h =
    let both = both_true (has_divisor lit) _ h in
    divisors_step v l lit (not came && is_equation v lit) (replaced v l true lits) (replaced v l came lits) some both.0 (replaced_divisors v l true lits some both.1) (replaced_divisors v l came lits some both.1)

above_zero : (z : ℤ) → pos 0 <ℤ z → 0 < nat_abs z
above_zero z h = omega (arith, ints)

pub solved_divisors : (v : ℕ) (lits : List Lit) (e : Linear) → equation_in v lits ≡ Some e → list_all has_divisor lits ≡ true → list_all has_divisor (solved v lits) ≡ true
solved_divisors v lits e found h =
    ap (list_all has_divisor) (solved_is v lits e found) ∙ replaced_divisors v (upright v e) false lits (above_zero (coefficient v (upright v e)) (upright_positive v e (equation_in_has v lits e found))) h
