-- One literal more, in what is told of the rest of a list.
use Rattle.std.proofs.Common.{◌≡◌, ◌<◌, ◌≤◌, ◌+◌, ◌*◌, ◌^◌, ◌&&◌, ◌||◌, ℕ, suc, zero, List, [], ◌∷◌, refl, ap, sym, ◌∙◌, subst, arith, true, false, Bool, cond, not, length, drop, get_or, Option, Some, None}
use Rattle.std.specs.Prelude.{ℤ, pos, ◌<ℤ◌, nat_abs, nat_lt}
use Rattle.std.specs.List.{list_all, list_any}
use Rattle.std.proofs.lemmas.Bool.{ltb-true}
use Rattle.std.proofs.lemmas.Bool.Decides.{nat_tests}
use Rattle.std.proofs.lemmas.List.{drop_more}
use Rattle.lin_atoms.specs.Linear.{Linear}
use Rattle.lin_atoms.specs.Denial.{linear_of}
use Rattle.lin_atoms.specs.declared.lit.Lit.{Lit}
use Rattle.lin_atoms.specs.declared.lit.Lit.TheVariants.{Le, Eq, Div, NDiv}
use Rattle.lin_atoms.proofs.Public.{both_true}
use Rattle.model_project.specs.Substitution.{coefficient, equation_in, is_equation, occurs, replaced, solved, by_equation, upright}
use Rattle.model_project.specs.Elimination.{by_bounds, by_nearest, by_rest, divisor, gap, gaps_are_short, is_bound, least_multiple, nearer, nearest, on_side, period, removed, tidied}
use Rattle.model_project.specs.Projection.{eliminated, is_kept}
use Rattle.model_project.specs.machinery.Steps.{EquationIs, has_divisor, have_divisors}
use Rattle.model_project.proofs.PeriodLemmas.{least_multiple-le}
use Rattle.model_project.proofs.SolvedLemmas.{equation_in_has}
use Rattle.model_project.proofs.TruthLemmas.{upright_positive}
use Rattle.model_project.proofs.ShiftLemmas.{side_some}

-- which rule removes a variable
pub removed_nowhere : (model : List ℤ) (v : ℕ) (lits : List Lit) → list_any (occurs v) lits ≡ false → removed model v lits ≡ Some lits
removed_nowhere model v lits h = ap (λ b. cond (not b) (Some lits) (cond (list_any (is_equation v) lits) (tidied (solved v lits)) (cond (list_any (is_bound true v) lits) (by_bounds model true v lits) (cond (list_any (is_bound false v) lits) (by_bounds model false v lits) (by_rest model v lits))))) h

there_step : (v : ℕ) (lit : Lit) (lits : List Lit) (e : Linear) (b : Bool) → cond b (Some (linear_of lit)) (equation_in v lits) ≡ Some e → (equation_in v lits ≡ Some e → list_any (is_equation v) lits ≡ true) → (b || list_any (is_equation v) lits) ≡ true
there_step v lit lits e true h rest = refl
there_step v lit lits e false h rest = rest h

none_step : (v : ℕ) (lit : Lit) (lits : List Lit) (b : Bool) → cond b (Some (linear_of lit)) (equation_in v lits) ≡ None → (equation_in v lits ≡ None → list_any (is_equation v) lits ≡ false) → (b || list_any (is_equation v) lits) ≡ false
none_step v lit lits true h rest = absurd (cc)
none_step v lit lits false h rest = rest h

there : (v : ℕ) (lits : List Lit) (e : Linear) → equation_in v lits ≡ Some e → list_any (is_equation v) lits ≡ true
there v [] e h = absurd (cc)
there v (lit ∷ lits) e h = there_step v lit lits e (is_equation v lit) h (there v lits e)

pub removed_equation : (model : List ℤ) (v : ℕ) (lits : List Lit) (e : Linear) → list_any (occurs v) lits ≡ true → equation_in v lits ≡ Some e → removed model v lits ≡ tidied (replaced v (upright v e) false lits)
removed_equation model v lits e some found =
    ap (λ b. cond (not b) (Some lits) (cond (list_any (is_equation v) lits) (tidied (solved v lits)) (cond (list_any (is_bound true v) lits) (by_bounds model true v lits) (cond (list_any (is_bound false v) lits) (by_bounds model false v lits) (by_rest model v lits))))) some
    ∙ ap (λ b. cond b (tidied (solved v lits)) (cond (list_any (is_bound true v) lits) (by_bounds model true v lits) (cond (list_any (is_bound false v) lits) (by_bounds model false v lits) (by_rest model v lits)))) (there v lits e found)
    ∙ ap (λ o. tidied (by_equation v o lits)) found

none_there : (v : ℕ) (lits : List Lit) → equation_in v lits ≡ None → list_any (is_equation v) lits ≡ false
none_there v [] h = refl
none_there v (lit ∷ lits) h = none_step v lit lits (is_equation v lit) h (none_there v lits)

past_equations : (model : List ℤ) (v : ℕ) (lits : List Lit) → list_any (occurs v) lits ≡ true → equation_in v lits ≡ None → removed model v lits ≡ cond (list_any (is_bound true v) lits) (by_bounds model true v lits) (cond (list_any (is_bound false v) lits) (by_bounds model false v lits) (by_rest model v lits))
past_equations model v lits some none =
    ap (λ b. cond (not b) (Some lits) (cond (list_any (is_equation v) lits) (tidied (solved v lits)) (cond (list_any (is_bound true v) lits) (by_bounds model true v lits) (cond (list_any (is_bound false v) lits) (by_bounds model false v lits) (by_rest model v lits))))) some
    ∙ ap (λ b. cond b (tidied (solved v lits)) (cond (list_any (is_bound true v) lits) (by_bounds model true v lits) (cond (list_any (is_bound false v) lits) (by_bounds model false v lits) (by_rest model v lits)))) (none_there v lits none)

pub removed_below : (model : List ℤ) (v : ℕ) (lits : List Lit) → list_any (occurs v) lits ≡ true → equation_in v lits ≡ None → list_any (is_bound true v) lits ≡ true → removed model v lits ≡ by_bounds model true v lits
removed_below model v lits some none low = past_equations model v lits some none ∙ ap (λ b. cond b (by_bounds model true v lits) (cond (list_any (is_bound false v) lits) (by_bounds model false v lits) (by_rest model v lits))) low

past_below : (model : List ℤ) (v : ℕ) (lits : List Lit) → list_any (occurs v) lits ≡ true → equation_in v lits ≡ None → list_any (is_bound true v) lits ≡ false → removed model v lits ≡ cond (list_any (is_bound false v) lits) (by_bounds model false v lits) (by_rest model v lits)
past_below model v lits some none low = past_equations model v lits some none ∙ ap (λ b. cond b (by_bounds model true v lits) (cond (list_any (is_bound false v) lits) (by_bounds model false v lits) (by_rest model v lits))) low

pub removed_above : (model : List ℤ) (v : ℕ) (lits : List Lit) → list_any (occurs v) lits ≡ true → equation_in v lits ≡ None → list_any (is_bound true v) lits ≡ false → list_any (is_bound false v) lits ≡ true → removed model v lits ≡ by_bounds model false v lits
removed_above model v lits some none low high = past_below model v lits some none low ∙ ap (λ b. cond b (by_bounds model false v lits) (by_rest model v lits)) high

pub removed_rest : (model : List ℤ) (v : ℕ) (lits : List Lit) → list_any (occurs v) lits ≡ true → equation_in v lits ≡ None → list_any (is_bound true v) lits ≡ false → list_any (is_bound false v) lits ≡ false → removed model v lits ≡ by_rest model v lits
removed_rest model v lits some none low high = past_below model v lits some none low ∙ ap (λ b. cond b (by_bounds model false v lits) (by_rest model v lits)) high

-- the first equation, upright
pub equation_above : (v : ℕ) (l : Linear) (lits : List Lit) → EquationIs v l lits → pos 0 <ℤ coefficient v l
equation_above v l lits e = subst (λ m. pos 0 <ℤ coefficient v m) (sym e.2) (upright_positive v e.0 (equation_in_has v lits e.0 e.1))

pub removed_solved : (model : List ℤ) (v : ℕ) (lits : List Lit) (l : Linear) → list_any (occurs v) lits ≡ true → EquationIs v l lits → removed model v lits ≡ tidied (replaced v l false lits)
removed_solved model v lits l some e = removed_equation model v lits e.0 some e.1 ∙ ap (λ m. tidied (replaced v m false lits)) (sym e.2)

pub equation_at : (v : ℕ) (lits : List Lit) (i : ℕ) (d : Lit) → i < length lits → is_equation v (get_or lits i d) ≡ true → equation_in v (drop i lits) ≡ equation_in v lits → equation_in v lits ≡ Some (linear_of (get_or lits i d))
equation_at v lits i d h is told = sym told ∙ ap (equation_in v) (drop_more lits i d h) ∙ ap (λ b. cond b (Some (linear_of (get_or lits i d))) (equation_in v (drop (i + 1) lits))) is

pub equation_past : (v : ℕ) (lits : List Lit) (i : ℕ) (d : Lit) → i < length lits → is_equation v (get_or lits i d) ≡ false → equation_in v (drop (i + 1) lits) ≡ equation_in v (drop i lits)
equation_past v lits i d h free = sym (ap (equation_in v) (drop_more lits i d h) ∙ ap (λ b. cond b (Some (linear_of (get_or lits i d))) (equation_in v (drop (i + 1) lits))) free)

-- the period of the literals from the index on
pub period_skip : (v : ℕ) (lits : List Lit) (i : ℕ) (d : Lit) → i < length lits → occurs v (get_or lits i d) ≡ false → period v (drop i lits) ≡ period v (drop (i + 1) lits)
period_skip v lits i d h free = ap (period v) (drop_more lits i d h) ∙ ap (λ b. cond b (least_multiple (period v (drop (i + 1) lits)) (divisor (get_or lits i d))) (period v (drop (i + 1) lits))) free

pub period_take : (v : ℕ) (lits : List Lit) (i : ℕ) (d : Lit) → i < length lits → occurs v (get_or lits i d) ≡ true → period v (drop i lits) ≡ least_multiple (period v (drop (i + 1) lits)) (divisor (get_or lits i d))
period_take v lits i d h has = ap (period v) (drop_more lits i d h) ∙ ap (λ b. cond b (least_multiple (period v (drop (i + 1) lits)) (divisor (get_or lits i d))) (period v (drop (i + 1) lits))) has

period_step : (v : ℕ) (lit : Lit) (lits : List Lit) (b : Bool) → has_divisor lit ≡ true → period v lits ≤ cond b (least_multiple (period v lits) (divisor lit)) (period v lits)
period_step v lit lits true some = least_multiple-le (period v lits) (divisor lit) (ltb-true _ _ some)
period_step v lit lits false some = omega arith

pub period_rest : (v : ℕ) (lits : List Lit) (i : ℕ) → have_divisors lits ≡ true → period v (drop i lits) ≤ period v lits
period_rest v lits zero d = omega arith
period_rest v [] (suc i) d = omega arith
period_rest v (lit ∷ lits) (suc i) d =
    let both = both_true (has_divisor lit) _ d in
    let rest = period_rest v lits i both.1 in
    let step = period_step v lit lits (occurs v lit) both.0 in
    omega (arith, rest, step)

-- the nearest of the bounds from the index on
pub nearest_skip : (p : List ℤ) (below : Bool) (v : ℕ) (lits : List Lit) (i : ℕ) (d : Lit) → i < length lits → is_bound below v (get_or lits i d) ≡ false → nearest p below v (drop (i + 1) lits) ≡ nearest p below v (drop i lits)
nearest_skip p below v lits i d h free = sym (ap (nearest p below v) (drop_more lits i d h) ∙ ap (λ b. cond b (nearer p v (linear_of (get_or lits i d)) (nearest p below v (drop (i + 1) lits))) (nearest p below v (drop (i + 1) lits))) free)

pub nearest_take : (p : List ℤ) (below : Bool) (v : ℕ) (lits : List Lit) (i : ℕ) (d : Lit) → i < length lits → is_bound below v (get_or lits i d) ≡ true → nearer p v (linear_of (get_or lits i d)) (nearest p below v (drop (i + 1) lits)) ≡ nearest p below v (drop i lits)
nearest_take p below v lits i d h is = sym (ap (nearest p below v) (drop_more lits i d h) ∙ ap (λ b. cond b (nearer p v (linear_of (get_or lits i d)) (nearest p below v (drop (i + 1) lits))) (nearest p below v (drop (i + 1) lits))) is)

small_test : (n : ℕ) → n < 2 ^ 63 → nat_lt n (2 ^ 63) ≡ true
small_test n h = grind (arith, nat_tests)

wide_test : (n : ℕ) → 2 ^ 63 ≤ n → nat_lt n (2 ^ 63) ≡ false
wide_test n h = grind (arith, nat_tests)

pub gaps_skip : (p : List ℤ) (below : Bool) (v : ℕ) (lits : List Lit) (i : ℕ) (d : Lit) → i < length lits → is_bound below v (get_or lits i d) ≡ false → gaps_are_short p below v (drop (i + 1) lits) ≡ true → gaps_are_short p below v (drop i lits) ≡ true
gaps_skip p below v lits i d h free small =
    let lit = get_or lits i d in
    ap (gaps_are_short p below v) (drop_more lits i d h) ∙ ap (λ b. (not b || nat_lt (gap p (linear_of lit)) (2 ^ 63)) && gaps_are_short p below v (drop (i + 1) lits)) free ∙ small

either_or : (b : Bool) → (b || true) ≡ true
either_or true = refl
either_or false = refl

pub gaps_take : (p : List ℤ) (below : Bool) (v : ℕ) (lits : List Lit) (i : ℕ) (d : Lit) → i < length lits → gap p (linear_of (get_or lits i d)) < 2 ^ 63 → gaps_are_short p below v (drop (i + 1) lits) ≡ true → gaps_are_short p below v (drop i lits) ≡ true
gaps_take p below v lits i d h here small =
    let lit = get_or lits i d in
    ap (gaps_are_short p below v) (drop_more lits i d h) ∙ ap (λ b. (not (is_bound below v lit) || b) && gaps_are_short p below v (drop (i + 1) lits)) (small_test (gap p (linear_of lit)) here)
    ∙ ap (λ b. b && gaps_are_short p below v (drop (i + 1) lits)) (either_or (not (is_bound below v lit))) ∙ small

and_false : (b c : Bool) → c ≡ false → (b && c) ≡ false
and_false true c h = h
and_false false c h = refl

all_drop : (test : Lit → Bool) (lits : List Lit) (i : ℕ) → list_all test (drop i lits) ≡ false → list_all test lits ≡ false
all_drop test lits zero h = h
all_drop test [] (suc i) h = h
all_drop test (lit ∷ lits) (suc i) h = and_false (test lit) (list_all test lits) (all_drop test lits i h)

pub gaps_wide : (p : List ℤ) (below : Bool) (v : ℕ) (lits : List Lit) (i : ℕ) (d : Lit) → i < length lits → is_bound below v (get_or lits i d) ≡ true → 2 ^ 63 ≤ gap p (linear_of (get_or lits i d)) → gaps_are_short p below v lits ≡ false
gaps_wide p below v lits i d h is wide =
    let lit = get_or lits i d in
    all_drop (λ lit. not (is_bound below v lit) || nat_lt (gap p (linear_of lit)) (2 ^ 63)) lits i (ap (gaps_are_short p below v) (drop_more lits i d h)
    ∙ ap (λ b. (not b || nat_lt (gap p (linear_of lit)) (2 ^ 63)) && gaps_are_short p below v (drop (i + 1) lits)) is
    ∙ ap (λ b. b && gaps_are_short p below v (drop (i + 1) lits)) (wide_test (gap p (linear_of lit)) wide))

-- the nearest bound has the variable
bound_side : (below : Bool) (v : ℕ) (lit : Lit) → is_bound below v lit ≡ true → on_side below (coefficient v (linear_of lit)) ≡ true
bound_side below v (Le m) h = h
bound_side below v (Eq m) h = absurd (cc)
bound_side below v (Div n m) h = absurd (cc)
bound_side below v (NDiv n m) h = absurd (cc)

chosen_side : (below : Bool) (v : ℕ) (a lin other : Linear) (b : Bool) → on_side below (coefficient v a) ≡ true → on_side below (coefficient v other) ≡ true → cond b (Some other) (Some a) ≡ Some lin → on_side below (coefficient v lin) ≡ true
chosen_side below v a lin other true is rest h = let same : other ≡ lin = cc in ap (λ l. on_side below (coefficient v l)) (sym same) ∙ rest
chosen_side below v a lin other false is rest h = let same : a ≡ lin = cc in ap (λ l. on_side below (coefficient v l)) (sym same) ∙ is

nearer_side : (p : List ℤ) (below : Bool) (v : ℕ) (a lin : Linear) (o : Option Linear) → on_side below (coefficient v a) ≡ true → ((other : Linear) → o ≡ Some other → on_side below (coefficient v other) ≡ true) → nearer p v a o ≡ Some lin → on_side below (coefficient v lin) ≡ true
nearer_side p below v a lin None is rest h = let same : a ≡ lin = cc in ap (λ l. on_side below (coefficient v l)) (sym same) ∙ is
nearer_side p below v a lin (Some other) is rest h = chosen_side below v a lin other (nat_lt (gap p other * nat_abs (coefficient v a)) (gap p a * nat_abs (coefficient v other))) is (rest other refl) h

nearest_side_step : (p : List ℤ) (below : Bool) (v : ℕ) (lit : Lit) (lits : List Lit) (lin : Linear) (b : Bool) → is_bound below v lit ≡ b → ((other : Linear) → nearest p below v lits ≡ Some other → on_side below (coefficient v other) ≡ true)
    → cond b (nearer p v (linear_of lit) (nearest p below v lits)) (nearest p below v lits) ≡ Some lin → on_side below (coefficient v lin) ≡ true
nearest_side_step p below v lit lits lin true is rest h = nearer_side p below v (linear_of lit) lin (nearest p below v lits) (bound_side below v lit is) rest h
nearest_side_step p below v lit lits lin false is rest h = rest lin h

nearest_side : (p : List ℤ) (below : Bool) (v : ℕ) (lits : List Lit) (lin : Linear) → nearest p below v lits ≡ Some lin → on_side below (coefficient v lin) ≡ true
nearest_side p below v [] lin h = absurd (cc)
nearest_side p below v (lit ∷ lits) lin h = nearest_side_step p below v lit lits lin (is_bound below v lit) refl (nearest_side p below v lits) h

pub nearest_has : (p : List ℤ) (below : Bool) (v : ℕ) (lits : List Lit) (lin : Linear) → nearest p below v lits ≡ Some lin → 0 < nat_abs (coefficient v lin)
nearest_has p below v lits lin h = side_some below (coefficient v lin) (nearest_side p below v lits lin h)

-- what a bound gives
pub bounds_small : (p : List ℤ) (below : Bool) (v : ℕ) (lits : List Lit) (o : Option Linear) → gaps_are_short p below v lits ≡ true → nearest p below v lits ≡ o → by_bounds p below v lits ≡ by_nearest p v lits o
bounds_small p below v lits o small is = ap (λ b. cond b (by_nearest p v lits (nearest p below v lits)) None) small ∙ ap (by_nearest p v lits) is

pub bounds_wide : (p : List ℤ) (below : Bool) (v : ℕ) (lits : List Lit) → gaps_are_short p below v lits ≡ false → by_bounds p below v lits ≡ None
bounds_wide p below v lits wide = ap (λ b. cond b (by_nearest p v lits (nearest p below v lits)) None) wide

-- one variable more
pub eliminated_kept : (model : List ℤ) (keep : List ℕ) (v n : ℕ) (lits : List Lit) (whole : Option (List Lit)) → n ≡ suc v → is_kept keep v ≡ true → whole ≡ eliminated model keep n (Some lits) → whole ≡ eliminated model keep v (Some lits)
eliminated_kept model keep v n lits whole e is told = told ∙ ap (λ m. eliminated model keep m (Some lits)) e ∙ ap (λ b. eliminated model keep v (cond b (Some lits) (removed model v lits))) is

pub eliminated_more : (model : List ℤ) (keep : List ℕ) (v n : ℕ) (lits new : List Lit) (whole : Option (List Lit)) → n ≡ suc v → is_kept keep v ≡ false → removed model v lits ≡ Some new → whole ≡ eliminated model keep n (Some lits) → whole ≡ eliminated model keep v (Some new)
eliminated_more model keep v n lits new whole e free is told = told ∙ ap (λ m. eliminated model keep m (Some lits)) e ∙ ap (λ b. eliminated model keep v (cond b (Some lits) (removed model v lits))) free ∙ ap (eliminated model keep v) is

nothing : (model : List ℤ) (keep : List ℕ) (n : ℕ) → eliminated model keep n None ≡ None
nothing model keep zero = refl
nothing model keep (suc v) = refl

pub eliminated_stop : (model : List ℤ) (keep : List ℕ) (v n : ℕ) (lits : List Lit) (whole : Option (List Lit)) → n ≡ suc v → is_kept keep v ≡ false → removed model v lits ≡ None → whole ≡ eliminated model keep n (Some lits) → whole ≡ None
eliminated_stop model keep v n lits whole e free is told = told ∙ ap (λ m. eliminated model keep m (Some lits)) e ∙ ap (λ b. eliminated model keep v (cond b (Some lits) (removed model v lits))) free ∙ ap (eliminated model keep v) is ∙ nothing model keep v

pub eliminated_end : (model : List ℤ) (keep : List ℕ) (n : ℕ) (lits : List Lit) (whole : Option (List Lit)) → n ≡ 0 → whole ≡ eliminated model keep n (Some lits) → whole ≡ Some lits
eliminated_end model keep n lits whole e told = told ∙ ap (λ m. eliminated model keep m (Some lits)) e

pub nothing_more : (model : List ℤ) (keep : List ℕ) (n : ℕ) (o : Option (List Lit)) → o ≡ None → eliminated model keep n o ≡ None
nothing_more model keep n o h = ap (eliminated model keep n) h ∙ nothing model keep n
