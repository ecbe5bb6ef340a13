-- Literals without a variable, which are left out, and what the terms of an ordered form have.
use Rattle.std.proofs.Common.{◌≡◌, ◌<◌, ◌≤◌, ◌+◌, ◌&&◌, ℕ, suc, List, [], ◌∷◌, refl, ap, sym, ◌∙◌, arith, true, false, Bool, ◌==◌, cond, not, length, Some, None}
use Rattle.std.specs.Prelude.{ℤ, pos, ◌+ℤ◌, nat_abs, nat_lt}
use Rattle.std.specs.List.{list_all, filter}
use Rattle.std.proofs.lemmas.Int.{ints}
use Rattle.std.proofs.lemmas.Bool.{eqb-true, ltb-false}
use Rattle.std.proofs.lemmas.Bool.Decides.{nat_tests}
use Rattle.lin_atoms.specs.Linear.{are_ordered, sum_at}
use Rattle.lin_atoms.specs.Denial.{linear_of}
use Rattle.lin_atoms.specs.Truth.{lit_all, lit_truth}
use Rattle.lin_atoms.specs.declared.lit.Lit.{Lit}
use Rattle.lin_atoms.specs.declared.lit.Lit.TheVariants.{Le, Eq, Div, NDiv}
use Rattle.lin_atoms.proofs.Public.{both_true, ordered}
use Rattle.model_project.specs.Substitution.{coefficient_in, occurs}
use Rattle.model_project.specs.Elimination.{has_variable, has_short_numbers, tidied}
use Rattle.model_project.specs.Projection.{are_true}
use Rattle.model_project.proofs.SolvedLemmas.{lacks, not-false}
use Rattle.model_project.proofs.TruthLemmas.{lacking, truth_by_value}

pub true_false : (b : Bool) → b ≡ true → b ≡ false → ⊥
true_false true t f = cc
true_false false t f = cc

no_terms : (ts : List (ℕ × ℤ)) → nat_lt 0 (length ts) ≡ false → ts ≡ []
no_terms [] h = refl
no_terms (t ∷ ts) h = let none : suc (length ts) ≤ 0 = ltb-false _ _ h in absurd (omega arith)

-- a literal without a variable is as true at every point
ground_truth : (p q : List ℤ) (lit : Lit) → has_variable lit ≡ false → lit_truth p lit ≡ lit_truth q lit
ground_truth p q lit h =
    let none = no_terms (linear_of lit).terms h in
    truth_by_value p q lit (ap (λ ts. sum_at p ts +ℤ (linear_of lit).constant) none ∙ sym (ap (λ ts. sum_at q ts +ℤ (linear_of lit).constant) none))

back_here : (p q : List ℤ) (lit : Lit) (lits : List Lit) (b : Bool) → has_variable lit ≡ b → lit_truth q lit ≡ true → (are_true p (filter has_variable lits) ≡ true → are_true p lits ≡ true)
    → are_true p (cond b (lit ∷ filter has_variable lits) (filter has_variable lits)) ≡ true → are_true p (lit ∷ lits) ≡ true
back_here p q lit lits true e t rest h = let both = both_true (lit_truth p lit) _ h in ap (λ b. b && are_true p lits) both.0 ∙ rest both.1
back_here p q lit lits false e t rest h = ap (λ b. b && are_true p lits) (ground_truth p q lit e ∙ t) ∙ rest h

-- what is left out is true
pub filter_true : (p q : List ℤ) (lits : List Lit) → are_true q lits ≡ true → are_true p (filter has_variable lits) ≡ true → are_true p lits ≡ true
filter_true p q [] t h = refl
filter_true p q (lit ∷ lits) t h = let both = both_true (lit_truth q lit) _ t in back_here p q lit lits (has_variable lit) refl both.0 (filter_true p q lits both.1) h

all_here : (test : Lit → Bool) (lit : Lit) (lits : List Lit) (b : Bool) → test lit ≡ true → list_all test lits ≡ true → list_all test (cond b (lit ∷ lits) lits) ≡ true
all_here test lit lits true h g = ap (λ b. b && list_all test lits) h ∙ g
all_here test lit lits false h g = g

pub filter_all : (test : Lit → Bool) (lits : List Lit) → list_all test lits ≡ true → list_all test (filter has_variable lits) ≡ true
filter_all test [] h = refl
filter_all test (lit ∷ lits) h = let both = both_true (test lit) _ h in all_here test lit (filter has_variable lits) (has_variable lit) both.0 (filter_all test lits both.1)

narrow_here : (lits new : List Lit) (b : Bool) → cond b (Some lits) None ≡ Some new → lits ≡ new
narrow_here lits new true h = cc
narrow_here lits new false h = absurd (cc)

pub tidied_is : (lits new : List Lit) → tidied lits ≡ Some new → filter has_variable lits ≡ new
tidied_is lits new h = narrow_here (filter has_variable lits) new (list_all has_short_numbers (filter has_variable lits)) h

-- variables below the first do not occur
gone_step : (u : ℕ) (t : ℕ × ℤ) (ts : List (ℕ × ℤ)) (b : Bool) → (t.0 == u) ≡ b → u < t.0 → coefficient_in u ts ≡ pos 0 → cond b (t.1 +ℤ coefficient_in u ts) (coefficient_in u ts) ≡ pos 0
gone_step u t ts true e less h = let same : t.0 ≡ u = eqb-true _ _ e in absurd (omega (arith, same))
gone_step u t ts false e less h = h

pub gone_below : (from : ℕ) (ts : List (ℕ × ℤ)) (u : ℕ) → are_ordered from ts ≡ true → u < from → coefficient_in u ts ≡ pos 0
gone_below from [] u is h = refl
gone_below from (t ∷ ts) u is h =
    let parts = ordered from t ts is in
    gone_step u t ts (t.0 == u) refl (omega (arith, parts.above)) (gone_below (t.0 + 1) ts u parts.rest (omega (arith, parts.above)))

same_test : (n : ℕ) → (n == n) ≡ true
same_test n = grind (arith, nat_tests)

-- the first term has its variable's coefficient
pub first_has : (from : ℕ) (t : ℕ × ℤ) (ts : List (ℕ × ℤ)) → are_ordered from (t ∷ ts) ≡ true → coefficient_in t.0 (t ∷ ts) ≡ t.1
first_has from t ts is =
    let parts = ordered from t ts is in
    let none = gone_below (t.0 + 1) ts t.0 parts.rest (omega arith) in
    let here : coefficient_in t.0 (t ∷ ts) ≡ t.1 +ℤ coefficient_in t.0 ts = ap (λ b. cond b (t.1 +ℤ coefficient_in t.0 ts) (coefficient_in t.0 ts)) (same_test t.0) in
    omega (arith, ints, here, none)

differs : (t u : ℕ) (a : ℤ) (c : ℤ) (b : Bool) → (t == u) ≡ b → (t ≡ u → ⊥) → cond b (a +ℤ c) c ≡ c
differs t u a c true e other = absurd (other (eqb-true _ _ e))
differs t u a c false e other = refl

pub other_has : (t : ℕ × ℤ) (ts : List (ℕ × ℤ)) (u : ℕ) → (t.0 ≡ u → ⊥) → coefficient_in u (t ∷ ts) ≡ coefficient_in u ts
other_has t ts u other = differs t.0 u t.1 (coefficient_in u ts) (t.0 == u) refl other

-- an ordered form that lacks what fails a test passes it
by_test : (test : ℕ → Bool) (from : ℕ) (t : ℕ × ℤ) (ts : List (ℕ × ℤ)) (b : Bool) → test t.0 ≡ b → are_ordered from (t ∷ ts) ≡ true → ((u : ℕ) → test u ≡ false → coefficient_in u (t ∷ ts) ≡ pos 0) → test t.0 ≡ true
by_test test from t ts true e is lack = e
by_test test from t ts false e is lack =
    let parts = ordered from t ts is in
    let none : t.1 ≡ pos 0 = sym (first_has from t ts is) ∙ lack t.0 e in
    absurd (omega (arith, ints, none, parts.whole))

pub terms_pass : (test : ℕ → Bool) (from : ℕ) (ts : List (ℕ × ℤ)) → are_ordered from ts ≡ true → ((u : ℕ) → test u ≡ false → coefficient_in u ts ≡ pos 0) → list_all (λ t. test t.0) ts ≡ true
terms_pass test from [] is lack = refl
terms_pass test from (t ∷ ts) is lack =
    let parts = ordered from t ts is in
    let here = by_test test from t ts (test t.0) refl is lack in
    ap (λ b. b && list_all (λ t. test t.0) ts) here
    ∙ terms_pass test (t.0 + 1) ts parts.rest (λ u e. sym (other_has t ts u (λ same. true_false (test u) (ap test (sym same) ∙ here) e)) ∙ lack u e)

abbrev pub lit_is_ordered : Lit → Bool
lit_is_ordered lit = are_ordered 0 (linear_of lit).terms

lit_passes : (test : ℕ → Bool) (lit : Lit) → list_all (λ t. test t.0) (linear_of lit).terms ≡ true → lit_all test lit ≡ true
lit_passes test (Le m) h = h
lit_passes test (Eq m) h = h
lit_passes test (Div d m) h = h
lit_passes test (NDiv d m) h = h

pub lits_pass : (test : ℕ → Bool) (lits : List Lit) → list_all lit_is_ordered lits ≡ true → ((u : ℕ) → test u ≡ false → lacks u lits ≡ true) → list_all (lit_all test) lits ≡ true
lits_pass test [] is lack = refl
lits_pass test (lit ∷ lits) is lack =
    let both = both_true (lit_is_ordered lit) _ is in
    let here = lit_passes test lit (terms_pass test 0 (linear_of lit).terms both.0 (λ u e. lacking u (linear_of lit) (not-false _ (both_true (not (occurs u lit)) _ (lack u e)).0))) in
    ap (λ b. b && list_all (lit_all test) lits) here ∙ lits_pass test lits both.1 (λ u e. (both_true (not (occurs u lit)) _ (lack u e)).1)

-- a form whose variables pass a test lacks what fails it
has_step : (test : ℕ → Bool) (u : ℕ) (t : ℕ × ℤ) (ts : List (ℕ × ℤ)) (b : Bool) → (t.0 == u) ≡ b → test u ≡ false → test t.0 ≡ true → coefficient_in u ts ≡ pos 0 → cond b (t.1 +ℤ coefficient_in u ts) (coefficient_in u ts) ≡ pos 0
has_step test u t ts true e f here rest = absurd (true_false (test u) (ap test (sym (eqb-true _ _ e)) ∙ here) f)
has_step test u t ts false e f here rest = rest

terms_lack : (test : ℕ → Bool) (u : ℕ) (ts : List (ℕ × ℤ)) → test u ≡ false → list_all (λ t. test t.0) ts ≡ true → coefficient_in u ts ≡ pos 0
terms_lack test u [] f h = refl
terms_lack test u (t ∷ ts) f h = let both = both_true (test t.0) _ h in has_step test u t ts (t.0 == u) refl f both.0 (terms_lack test u ts f both.1)

passes_lit : (test : ℕ → Bool) (lit : Lit) → lit_all test lit ≡ true → list_all (λ t. test t.0) (linear_of lit).terms ≡ true
passes_lit test (Le m) h = h
passes_lit test (Eq m) h = h
passes_lit test (Div d m) h = h
passes_lit test (NDiv d m) h = h

pub pass_lacks : (test : ℕ → Bool) (u : ℕ) (lits : List Lit) → test u ≡ false → list_all (lit_all test) lits ≡ true → lacks u lits ≡ true
pass_lacks test u [] f h = refl
pass_lacks test u (lit ∷ lits) f h =
    let both = both_true (lit_all test lit) _ h in
    let none : occurs u lit ≡ false = ap (λ z. nat_lt 0 (nat_abs z)) (terms_lack test u (linear_of lit).terms f (passes_lit test lit both.0)) in
    ap (λ b. not b && lacks u lits) none ∙ pass_lacks test u lits f both.1
