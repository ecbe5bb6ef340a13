-- The elimination gives a projection.
use Rattle.std.proofs.Common.{◌≡◌, ◌≤◌, ◌^◌, ◌&&◌, ◌||◌, ℕ, suc, zero, List, [], ◌∷◌, refl, ap, sym, ◌∙◌, subst, arith, true, false, Bool, ◌==◌, cond, length, Option, Some, None}
use Rattle.std.specs.Prelude.{ℤ, pos, neg_ℤ, ◌+ℤ◌, ◌*ℤ◌, nat_abs, nat_lt}
use Rattle.std.specs.List.{list_all, filter}
use Rattle.std.proofs.lemmas.Int.{ints}
use Rattle.std.proofs.lemmas.Bool.{eqb-true}
use Rattle.std.proofs.lemmas.Bool.Decides.{nat_tests}
use Rattle.lin_atoms.specs.Linear.{is_short, variable_at}
use Rattle.lin_atoms.specs.Truth.{lit_all, lit_is_below, lit_truth}
use Rattle.lin_atoms.specs.declared.lit.Lit.{Lit}
use Rattle.lin_atoms.proofs.Public.{both_true}
use Rattle.model_project.specs.Elimination.{has_variable, removed, tidied}
use Rattle.model_project.specs.machinery.Steps.{are_narrow, has_divisor}
use Rattle.model_project.specs.Projection.{Extends, IsProjection, are_true, eliminated, is_kept, point, projection, unless_given_up}
use Rattle.model_project.proofs.NumberLemmas.{abs-zero, zero-abs}
use Rattle.model_project.proofs.PointLemmas.{put, put-other}
use Rattle.model_project.proofs.RuleLemmas.{Step, removed_step}
use Rattle.model_project.proofs.SolvedLemmas.{lacks}
use Rattle.model_project.proofs.TidyLemmas.{filter_all, filter_true, lit_is_ordered, lits_pass, pass_lacks, tidied_is, true_false}

-- what holds of the list once the variables from n on are removed
pub record Removed (model : List ℤ) (keep : List ℕ) (n : ℕ) (lits new : List Lit) : Type 0 where
  pub has_model : are_true model new ≡ true
  pub extends : (p : List ℤ) → are_true p new ≡ true → Extends lits keep p
  pub lack : (u : ℕ) → n ≤ u → is_kept keep u ≡ false → lacks u new ≡ true

itself : (lits : List Lit) (keep : List ℕ) (p : List ℤ) → are_true p lits ≡ true → Extends lits keep p
itself lits keep p t = record { whole = p; same = λ v is. refl; holds = t }

through : (lits middle : List Lit) (keep : List ℕ) (p : List ℤ) → Extends middle keep p → ((q : List ℤ) → are_true q middle ≡ true → Extends lits keep q) → Extends lits keep p
through lits middle keep p first second =
    let next = second first.whole first.holds in
    record { whole = next.whole; same = λ v is. next.same v is ∙ first.same v is; holds = next.holds }

by_step : (model : List ℤ) (keep : List ℕ) (v : ℕ) (lits new : List Lit) → is_kept keep v ≡ false → Step model v lits new → (p : List ℤ) → are_true p new ≡ true → Extends lits keep p
by_step model keep v lits new free step p t =
    let x = step.extends p t in
    record { whole = put v x.0 p; same = λ u is. put-other v x.0 p u (λ e. true_false (is_kept keep u) is (ap (is_kept keep) e ∙ free)); holds = x.1 }

-- one variable less
fewer : (v u : ℕ) → v ≤ u → (u ≡ v → ⊥) → suc v ≤ u
fewer v u le other = omega arith

lack_kept : (keep : List ℕ) (v : ℕ) (lits : List Lit) → is_kept keep v ≡ true → ((u : ℕ) → suc v ≤ u → is_kept keep u ≡ false → lacks u lits ≡ true) → (u : ℕ) → v ≤ u → is_kept keep u ≡ false → lacks u lits ≡ true
lack_kept keep v lits is lack u le free = lack u (fewer v u le (λ e. true_false (is_kept keep u) (ap (is_kept keep) e ∙ is) free)) free

equal_test : (u v : ℕ) → u ≡ v → (u == v) ≡ true
equal_test u v e = grind (arith, nat_tests)

lack_by : (b : Bool) (keep : List ℕ) (v u : ℕ) (model : List ℤ) (lits new : List Lit) → (u == v) ≡ b → Step model v lits new → ((u : ℕ) → suc v ≤ u → is_kept keep u ≡ false → lacks u lits ≡ true) → v ≤ u → is_kept keep u ≡ false → lacks u new ≡ true
lack_by true keep v u model lits new e step lack le free = subst (λ w. lacks w new ≡ true) (sym (eqb-true _ _ e)) step.gone
lack_by false keep v u model lits new e step lack le free =
    let other : u ≡ v → ⊥ = λ same. true_false (u == v) (equal_test u v same) e in
    step.others u other (lack u (fewer v u le other) free)

nothing_left : (model : List ℤ) (keep : List ℕ) (n : ℕ) → eliminated model keep n None ≡ None
nothing_left model keep zero = refl
nothing_left model keep (suc v) = refl

removed_here : (model : List ℤ) (keep : List ℕ) (v : ℕ) (lits new : List Lit) (o : Option (List Lit)) → removed model v lits ≡ o → is_kept keep v ≡ false → list_all has_divisor lits ≡ true → are_true model lits ≡ true → ((u : ℕ) → suc v ≤ u → is_kept keep u ≡ false → lacks u lits ≡ true)
    → ((next : List Lit) → are_true model next ≡ true → list_all has_divisor next ≡ true → ((u : ℕ) → v ≤ u → is_kept keep u ≡ false → lacks u next ≡ true) → eliminated model keep v (Some next) ≡ Some new → Removed model keep 0 next new)
    → eliminated model keep v o ≡ Some new → Removed model keep 0 lits new
removed_here model keep v lits new None e free d t lack rest h = absurd (let none = nothing_left model keep v in cc)
removed_here model keep v lits new (Some next) e free d t lack rest h =
    let step = removed_step model v lits next d t e in
    let after = rest next step.has_model (step.divisors d) (λ u le f. lack_by (u == v) keep v u model lits next refl step lack le f) h in
    record { has_model = after.has_model; extends = λ p holds. through lits next keep p (after.extends p holds) (by_step model keep v lits next free step); lack = after.lack }

kept_here : (model : List ℤ) (keep : List ℕ) (v : ℕ) (lits new : List Lit) (b : Bool) → is_kept keep v ≡ b → list_all has_divisor lits ≡ true → are_true model lits ≡ true → ((u : ℕ) → suc v ≤ u → is_kept keep u ≡ false → lacks u lits ≡ true)
    → ((next : List Lit) → are_true model next ≡ true → list_all has_divisor next ≡ true → ((u : ℕ) → v ≤ u → is_kept keep u ≡ false → lacks u next ≡ true) → eliminated model keep v (Some next) ≡ Some new → Removed model keep 0 next new)
    → eliminated model keep v (cond b (Some lits) (removed model v lits)) ≡ Some new → Removed model keep 0 lits new
kept_here model keep v lits new true e d t lack rest h = rest lits t d (lack_kept keep v lits e lack) h
kept_here model keep v lits new false e d t lack rest h = removed_here model keep v lits new (removed model v lits) refl e d t lack rest h

all_removed : (model : List ℤ) (keep : List ℕ) (n : ℕ) (lits new : List Lit) → are_true model lits ≡ true → list_all has_divisor lits ≡ true → ((u : ℕ) → n ≤ u → is_kept keep u ≡ false → lacks u lits ≡ true) → eliminated model keep n (Some lits) ≡ Some new → Removed model keep 0 lits new
all_removed model keep zero lits new t d lack h =
    let same : lits ≡ new = cc in
    subst (λ xs. Removed model keep 0 lits xs) same (record { has_model = t; extends = itself lits keep; lack = lack })
all_removed model keep (suc v) lits new t d lack h = kept_here model keep v lits new (is_kept keep v) refl d t lack (λ next. all_removed model keep v next new) h

-- the model's point
own_value : (model p : List ℤ) (v : ℕ) → variable_at p v ≡ variable_at model v → pos 1 *ℤ variable_at p v +ℤ pos 0 +ℤ neg_ℤ (variable_at model v) ≡ pos 0
own_value model p v h = omega (arith, ints, h)

has_point : (model : List ℤ) (keep : List ℕ) → are_true model (point model keep) ≡ true
has_point model [] = refl
has_point model (v ∷ keep) = ap (λ b. b && are_true model (point model keep)) (abs-zero (pos 1 *ℤ variable_at model v +ℤ pos 0 +ℤ neg_ℤ (variable_at model v)) (own_value model model v refl)) ∙ has_point model keep

same_here : (model p : List ℤ) (v u : ℕ) (keep : List ℕ) (b : Bool) → (v == u) ≡ b → variable_at p v ≡ variable_at model v → (is_kept keep u ≡ true → variable_at model u ≡ variable_at p u) → (b || is_kept keep u) ≡ true → variable_at model u ≡ variable_at p u
same_here model p v u keep true e here rest h = ap (variable_at model) (sym (eqb-true _ _ e)) ∙ sym here ∙ ap (variable_at p) (eqb-true _ _ e)
same_here model p v u keep false e here rest h = rest h

one_value : (m p : ℤ) → pos 1 *ℤ p +ℤ pos 0 +ℤ neg_ℤ m ≡ pos 0 → p ≡ m
one_value m p h = omega (arith, ints, h)

point_same : (model p : List ℤ) (keep : List ℕ) (u : ℕ) → are_true p (point model keep) ≡ true → is_kept keep u ≡ true → variable_at model u ≡ variable_at p u
point_same model p [] u t h = absurd (cc)
point_same model p (v ∷ keep) u t h =
    let both = both_true (nat_abs (pos 1 *ℤ variable_at p v +ℤ pos 0 +ℤ neg_ℤ (variable_at model v)) == 0) _ t in
    let here = one_value (variable_at model v) (variable_at p v) (zero-abs _ both.0) in
    same_here model p v u keep (v == u) refl here (point_same model p keep u both.1) h

either_true : (b c : Bool) → c ≡ true → (b || c) ≡ true
either_true true c h = refl
either_true false c h = h

point_variables : (model : List ℤ) (all keep : List ℕ) → ((v : ℕ) → is_kept keep v ≡ true → is_kept all v ≡ true) → list_all (lit_all (is_kept all)) (point model keep) ≡ true
point_variables model all [] h = refl
point_variables model all (v ∷ keep) h =
    let first : is_kept (v ∷ keep) v ≡ true = ap (λ b. b || is_kept keep v) (equal_test v v refl) in
    let rest = point_variables model all keep (λ u is. h u (either_true (v == u) (is_kept keep u) is)) in
    ap (λ b. b && true && list_all (lit_all (is_kept all)) (point model keep)) (h v first) ∙ rest

by_point : (lits : List Lit) (model : List ℤ) (keep : List ℕ) → are_true model lits ≡ true → IsProjection lits model keep (point model keep)
by_point lits model keep t = record {
  variables = point_variables model keep keep (λ v is. is);
  has_model = has_point model keep;
  extends = λ p holds. record { whole = model; same = λ v is. point_same model p keep v holds is; holds = t };
}

-- variables from the model's end on do not occur
past_end : (n u : ℕ) → n ≤ u → nat_lt u n ≡ false
past_end n u h = grind (arith, nat_tests)

by_elimination : (lits first cube : List Lit) (model : List ℤ) (keep : List ℕ) → are_true model lits ≡ true → list_all has_divisor lits ≡ true → list_all (lit_is_below (length model)) lits ≡ true → filter has_variable lits ≡ first → eliminated model keep (length model) (Some first) ≡ Some cube → list_all lit_is_ordered cube ≡ true
    → IsProjection lits model keep cube
by_elimination lits first cube model keep t d below is h ordered =
    let start : are_true model first ≡ true = ap (are_true model) (sym is) ∙ filter_all (lit_truth model) lits t in
    let divs : list_all has_divisor first ≡ true = ap (list_all has_divisor) (sym is) ∙ filter_all has_divisor lits d in
    let inside : list_all (lit_is_below (length model)) first ≡ true = ap (list_all (lit_is_below (length model))) (sym is) ∙ filter_all (lit_is_below (length model)) lits below in
    let all = all_removed model keep (length model) first cube start divs (λ u le free. pass_lacks (λ v. nat_lt v (length model)) u first (past_end (length model) u le) inside) h in
    record {
      variables = lits_pass (is_kept keep) cube ordered (λ u free. all.lack u (omega arith) free);
      has_model = all.has_model;
      extends = λ p holds. let x = all.extends p holds in record { whole = x.whole; same = x.same; holds = filter_true x.whole model lits t (ap (are_true x.whole) is ∙ x.holds) };
    }

by_outcome : (lits : List Lit) (model : List ℤ) (keep : List ℕ) (o : Option (List Lit)) → tidied lits ≡ o → are_true model lits ≡ true → list_all has_divisor lits ≡ true → list_all (lit_is_below (length model)) lits ≡ true
    → (r : Option (List Lit)) → eliminated model keep (length model) o ≡ r → list_all lit_is_ordered (unless_given_up model keep r) ≡ true → IsProjection lits model keep (unless_given_up model keep r)
by_outcome lits model keep o e t d below None f ordered = by_point lits model keep t
by_outcome lits model keep None e t d below (Some cube) f ordered = absurd (let none = nothing_left model keep (length model) in cc)
by_outcome lits model keep (Some first) e t d below (Some cube) f ordered = by_elimination lits first cube model keep t d below (tidied_is lits first e) f ordered

-- the elimination's cube is a projection, where it can be written with ordered forms
pub projection_is : (lits : List Lit) (model : List ℤ) (keep : List ℕ) → are_true model lits ≡ true → list_all has_divisor lits ≡ true → list_all (lit_is_below (length model)) lits ≡ true → list_all lit_is_ordered (projection model keep lits) ≡ true → IsProjection lits model keep (projection model keep lits)
projection_is lits model keep t d below ordered = by_outcome lits model keep (tidied lits) refl t d below (eliminated model keep (length model) (tidied lits)) refl ordered

point_step : (m : ℤ) → is_short m ≡ true → is_short (neg_ℤ m) ≡ true
point_step m h = let size : nat_abs (neg_ℤ m) ≡ nat_abs m = omega (arith, ints) in ap (λ n. nat_lt n (2 ^ 63)) size ∙ h

value_small : (model : List ℤ) (v : ℕ) → list_all is_short model ≡ true → is_short (variable_at model v) ≡ true
value_small [] v h = refl
value_small (x ∷ model) zero h = (both_true (is_short x) _ h).0
value_small (x ∷ model) (suc v) h = value_small model v (both_true (is_short x) _ h).1

-- the numbers of the point are those of the model
pub point_narrow : (model : List ℤ) (keep : List ℕ) → list_all is_short model ≡ true → are_narrow (point model keep) ≡ true
point_narrow model [] h = refl
point_narrow model (v ∷ keep) h = ap (λ b. b && true && are_narrow (point model keep)) (point_step (variable_at model v) (value_small model v h)) ∙ point_narrow model keep h

-- copies of what was given, and the cube, are a projection
pub kept_projection : (lits lits' : List Lit) (model model' : List ℤ) (keep keep' : List ℕ) (cube : List Lit) → lits' ≡ lits → model' ≡ model → keep' ≡ keep → cube ≡ projection model keep lits → are_true model lits ≡ true → list_all has_divisor lits ≡ true → list_all (lit_is_below (length model)) lits ≡ true
    → list_all lit_is_ordered cube ≡ true → (cube ≡ projection model' keep' lits') × IsProjection lits' model' keep' cube
kept_projection lits lits' model model' keep keep' cube e f g is t d below ordered =
    let whole = projection_is lits model keep t d below (ap (list_all lit_is_ordered) (sym is) ∙ ordered) in
    let here : IsProjection lits model keep cube = subst (λ c. IsProjection lits model keep c) (sym is) whole in
    subst (λ l. (cube ≡ projection model' keep' l) × IsProjection l model' keep' cube) (sym e)
    (subst (λ m. (cube ≡ projection m keep' lits) × IsProjection lits m keep' cube) (sym f) (subst (λ k. (cube ≡ projection model k lits) × IsProjection lits model k cube) (sym g) (is, here)))
