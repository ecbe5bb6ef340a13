-- Cases by hand: what their tokens stand for, and tests of formulas, which are what they say.
use Rattle.std.proofs.Common.{◌≡◌, ℕ, [], ◌∷◌, List, Bool, true, false, ◌&&◌, ◌||◌, not, cond, Some, None, refl, ap, ap₂, sym, ◌∙◌, subst, arith}
use Rattle.std.specs.Prelude.{ℤ, pos, negsuc, ◌+ℤ◌, ◌*ℤ◌, nat_abs, ◌==◌, Option, option_map, slice_index_or}
use Rattle.std.specs.List.{list_all}
use Rattle.std.proofs.lemmas.Int.{ints}
use Rattle.std.proofs.lemmas.Bool.{eqb-true}
use mathlib.Core.Bool.{true≢false}
use Rattle.lin_atoms.specs.Linear.{variable_at}
use Rattle.lin_atoms.specs.Truth.{lit_truth}
use Rattle.lin_atoms.specs.declared.lit.Lit.{Lit}
use Rattle.lin_atoms.specs.declared.lit.Lit.TheVariants.{Le, Eq}
use Rattle.lin_atoms.specs.declared.form.Form.TheVariants.{Lit as Literal}
use Rattle.refutation_trees.specs.GivenUp.{IsGivenUp}
use Rattle.refutation_trees.specs.declared.evidence.Evidence.{Evidence}
use Rattle.refutation_trees.specs.declared.evidence.Evidence.TheVariants.{Nodes}
use Rattle.clause_form.specs.declared.clause.Clause.{Clause}
use Rattle.cube_forms.proofs.Public.{truth-Literal}
use Rattle.model_project.specs.Projection.{IsProjection, are_true, is_kept}
use Rattle.book_rules.specs.declared.by.By.{By}
use Rattle.book_rules.specs.declared.by.By.TheVariants.{Lemma as ByLemma, Obligation as ByObligation, Clause as ByClause, Step as ByStep}
use Rattle.book_rules.specs.Walks.{or_else}
use Rattle.book_rules.specs.Queries.{Used}
use Rattle.book_rules.specs.Areas.{cover, stands_in, is_area}
use Rattle.book_rules.specs.Instances.{IsInstance}
use Rattle.book_rules.specs.Same.{same_form}
use Rattle.book_rules.specs.Steps.{IsSeen, Shows, accepts_used, meets, Carries, Step}
use Rattle.book_rules.specs.Rules.{Broken, rule, broken}
use Rattle.book_rules.specs.Legal.{IsLegal}
use Rattle.book_rules.specs.Examples.{is_3, is_number, at_variable, counting, first_clause, next_clause, not_3, after_raise}
use Rattle.book_rules.specs.Cases.{above_3, after_stall, asked, at_least_3, at_level, at_most_9, below_cube, below_lits, below_model, both_proofs, bounded, derive_0, eight_reaches_nine, fact_1, is_value, kept_9, learnt_2, lift_3, not_2, not_3_used, not_9, open_7, open_below, open_of, query_2, raise_past, raised_with, stall_2, strengthen_by, through_next}
use Rattle.book_rules.proofs.ListLemmas.{both_true, from_both, either_is}
use Rattle.book_rules.proofs.FormLemmas.{cover-Literal, stands-Literal}
use Rattle.book_rules.proofs.EqualLemmas.{forms_equal}
use Rattle.book_rules.proofs.ExampleLemmas.{open_fits, shows_bad, shows_first}
use Rattle.book_rules.proofs.WitnessLemmas.{query-given_up}

-- one number is the next one's
abbrev is_next : Lit
is_next = Eq (record { terms = (0, pos 1) ∷ (1, negsuc 0) ∷ []; constant = pos 1 })

-- Fact

zero_to_one : IsSeen counting (record { clause = 1; point = pos 0 ∷ pos 1 ∷ [] })
zero_to_one = record { clause = next_clause; there = refl; instance = record { whole = refl; guard = truth-Literal (pos 0 ∷ pos 1 ∷ []) is_next }; short = refl }

pub fact_is_legal : IsLegal counting asked (fact_1 (0 ∷ []) (Some 1))
fact_is_legal = record { goes_on = refl; carries = zero_to_one; unbroken = refl }

-- Derive

zero_first : IsSeen counting (record { clause = 0; point = pos 0 ∷ [] })
zero_first = record { clause = first_clause; there = refl; instance = record { whole = refl; guard = truth-Literal (pos 0 ∷ []) (is_number 0 (pos 0)) }; short = refl }

pub derive_is_legal : IsLegal counting learnt_2 derive_0
derive_is_legal = record { goes_on = refl; carries = zero_first; unbroken = refl }

-- Lift

-- where 2 is shut out, 3 isn't reached
not_after : (x y : ℤ) → (nat_abs (pos 1 *ℤ x +ℤ (negsuc 0 *ℤ y +ℤ pos 0) +ℤ pos 1) == 0) ≡ true → (not ((nat_abs (pos 1 *ℤ x +ℤ pos 0 +ℤ negsuc 1) == 0) && true) && true) ≡ true
    → not ((nat_abs (pos 1 *ℤ y +ℤ pos 0 +ℤ negsuc 2) == 0) && true) ≡ true
not_after x y next other = by_value (nat_abs (pos 1 *ℤ y +ℤ pos 0 +ℤ negsuc 2) == 0) refl where
  by_value : (b : Bool) → (nat_abs (pos 1 *ℤ y +ℤ pos 0 +ℤ negsuc 2) == 0) ≡ b → not (b && true) ≡ true
  by_value false is = refl
  by_value true is =
      let next_is : nat_abs (pos 1 *ℤ x +ℤ (negsuc 0 *ℤ y +ℤ pos 0) +ℤ pos 1) ≡ 0 = eqb-true _ 0 next in
      let three : nat_abs (pos 1 *ℤ y +ℤ pos 0 +ℤ negsuc 2) ≡ 0 = eqb-true _ 0 is in
      let two : x ≡ pos 2 = omega (arith, ints, next_is, three) in
      absurd (true≢false (sym other ∙ ap (λ z. not ((nat_abs (pos 1 *ℤ z +ℤ pos 0 +ℤ negsuc 1) == 0) && true) && true) two))

shows_next : Shows counting (through_next not_3 not_2.cube)
shows_next clause point there instance used =
    let same : next_clause ≡ clause = cc in
    subst (λ (c : Clause). IsInstance c point → list_all (accepts_used point c.atoms) (through_next not_3 not_2.cube).used ≡ true → meets point c.head (through_next not_3 not_2.cube).goal ≡ true) same
    (λ i u. not_after (slice_index_or point 0 (pos 0)) (slice_index_or point 1 (pos 0)) (sym (truth-Literal point is_next) ∙ i.guard) u) instance used

pub lift_is_legal : IsLegal counting learnt_2 (lift_3 1 both_proofs)
lift_is_legal = record { goes_on = refl; carries = (shows_first, (shows_next, tt)); unbroken = refl }

-- Strengthen

pub strengthen_is_legal : IsLegal counting learnt_2 (strengthen_by not_3 2 both_proofs)
strengthen_is_legal = record { goes_on = refl; carries = (shows_first, (shows_next, tt)); unbroken = refl }

-- Raise

eight_to_nine : IsSeen counting (record { clause = 1; point = pos 8 ∷ pos 9 ∷ [] })
eight_to_nine = record { clause = next_clause; there = refl; instance = record { whole = refl; guard = truth-Literal (pos 8 ∷ pos 9 ∷ []) is_next }; short = refl }

pub kept_is_legal : IsLegal counting (kept_9 []) (raise_past (eight_reaches_nine ∷ []))
unfolding eight_to_nine
kept_is_legal = record { goes_on = refl; carries = ((shows_bad, tt), (record { is_seen = eight_to_nine; broken = refl }, tt)); unbroken = refl }

-- Stall: the form is that of the query

stall_fits : (used : List Used) (others : Broken) → rule 52 (cond {A = Option By} (same_form (query_2 used) (query_2 used) && true) None (Some ByStep)) others ≡ others
stall_fits used others = ap (λ b. rule 52 (cond {A = Option By} (b && true) None (Some ByStep)) others) ((forms_equal (query_2 used) (query_2 used)).1 refl)

pub stall_is_legal : (evidence : Evidence) → IsGivenUp (query_2 not_3_used) evidence → IsLegal counting asked (stall_2 not_3_used evidence)
stall_is_legal evidence given_up = record { goes_on = refl; carries = given_up; unbroken = stall_fits not_3_used None }

pub stall_is_there : IsLegal counting asked (stall_2 not_3_used (Nodes 1))
stall_is_there = stall_is_legal (Nodes 1) ∣ query-given_up ∣₁

pub stall_of_another : broken counting asked (stall_2 ((record { atom = 0; cube = not_9.cube }) ∷ []) (Nodes 1)) ≡ Some (53, ByClause 1)
stall_of_another = stall_fits ((record { atom = 0; cube = not_9.cube }) ∷ []) (Some (53, ByClause 1))

pub stall_again : broken counting after_stall (stall_2 not_3_used (Nodes 1)) ≡ Some (54, ByObligation 2)
stall_again = stall_fits not_3_used (Some (54, ByObligation 2))

-- Open

pub open_outside : broken counting after_raise (open_of 0 (pos 4)) ≡ Some (4, ByObligation 0)
open_outside = open_fits (Some (4, ByObligation 0))

-- with a lemma about, which may have the literal too
open_fits-with : (lemma : Bool) (others : Broken) → rule 3 (cond {A = Option By} (((cover (is_3 ∷ []) (Literal is_3) && true) && (((stands_in is_3 (Literal is_3) || false) || lemma) && true)) && true) None (Some ByStep)) others ≡ others
open_fits-with lemma others =
    ap₂ (λ (c d : Bool). rule 3 (cond {A = Option By} (((c && true) && (((d || false) || lemma) && true)) && true) None (Some ByStep)) others) (cover-Literal (is_3 ∷ []) is_3) (stands-Literal is_3 is_3)

pub open_shut_out : broken counting (raised_with (at_level 1 not_3 ∷ []) [] []) (open_of 0 (pos 3)) ≡ Some (5, ByLemma 0)
open_shut_out = open_fits-with _ (Some (5, ByLemma 0))

-- the denial of 10 or more
abbrev to_9 : Lit
to_9 = Le (record { terms = (0, pos 1) ∷ []; constant = negsuc 8 })

lemma_unknown : (lits : List Lit) → cover lits (Literal to_9) ≡ false → rule 9 (or_else (option_map ByLemma (cond {A = Option ℕ} (not (cover lits (Literal to_9))) (Some 0) None)) None) None ≡ Some (9, ByLemma 0)
lemma_unknown lits h = ap (λ b. rule 9 (or_else (option_map ByLemma (cond {A = Option ℕ} (not b) (Some 0) None)) None) None) h

pub open_unknown : broken counting (raised_with (at_level 1 at_most_9 ∷ []) [] []) (open_of 0 (pos 3)) ≡ Some (9, ByLemma 0)
open_unknown = open_fits-with _ _ ∙ lemma_unknown (is_3 ∷ []) (cover-Literal (is_3 ∷ []) to_9)

-- a single point stands for no area
point_fits : (b : Bool) (others : Broken) → rule 3 (cond {A = Option By} (b && false) None (Some ByStep)) others ≡ Some (3, ByStep)
point_fits true others = refl
point_fits false others = refl

pub point_is_no_area : broken bounded after_raise (Step.Opens (open_7 (is_value (negsuc 6)) (at_least_3 ∷ []))) ≡ Some (3, ByStep)
point_is_no_area = point_fits _ _

pub careless_is_no_area : Carries bounded (Step.Opens (open_7 (is_value (negsuc 6)) (is_value (negsuc 6)))) → ⊥
careless_is_no_area c = let exact : is_value (negsuc 6) ≡ at_least_3 ∷ [] = (c.1).exact in absurd (cc)

-- a child of a child

two_to_three : IsSeen counting (record { clause = 1; point = below_model })
two_to_three = record { clause = next_clause; there = refl; instance = record { whole = refl; guard = truth-Literal below_model is_next }; short = refl }

only_2 : (p : List ℤ) → are_true p below_cube ≡ true → variable_at p 0 ≡ pos 2
only_2 p holds =
    let first = (both_true (lit_truth p (is_number 0 (negsuc 1))) (are_true p (to_9 ∷ [])) holds).0 in
    let zero_is : nat_abs (pos 1 *ℤ slice_index_or p 0 (pos 0) +ℤ pos 0 +ℤ negsuc 1) ≡ 0 = eqb-true (nat_abs (pos 1 *ℤ slice_index_or p 0 (pos 0) +ℤ pos 0 +ℤ negsuc 1)) 0 first in
    let is : slice_index_or p 0 (pos 0) ≡ pos 2 = omega (arith, ints, zero_is) in
    is

kept_is_0 : (v : ℕ) → is_kept (0 ∷ []) v ≡ true → 0 ≡ v
kept_is_0 v h = either_is (0 == v) false (0 ≡ v) (λ is. eqb-true 0 v is) (λ never. absurd (true≢false (sym never))) h

below_projects : IsProjection below_lits below_model (0 ∷ []) below_cube
below_projects = record {
  variables = refl;
  has_model = refl;
  extends = λ p holds. record {
    whole = below_model;
    same = λ v kept. subst (λ w. variable_at below_model w ≡ variable_at p w) (kept_is_0 v kept) (sym (only_2 p holds));
    holds = refl;
  };
}

or_first : (a b : Bool) → a ≡ true → (a || b) ≡ true
or_first true b h = refl
or_first false b h = absurd (true≢false (sym h))

or_second : (a b : Bool) → b ≡ true → (a || b) ≡ true
or_second true b h = refl
or_second false b h = h

below_area : is_area next_clause below_model (at_variable 0) (is_value (negsuc 2)) above_3.lemmas 1 open_below.area ≡ true
below_area =
    from_both _ _ (from_both _ _ (from_both _ _ refl (cover-Literal below_lits is_next)) refl)
    (from_both _ _ (or_first _ _ (or_first _ _ (stands-Literal is_next is_next)))
    (from_both _ _ (or_first _ _ (or_second _ _ refl))
    (from_both _ _ (or_second _ _ (or_first _ _ (or_first _ _ (stands-Literal to_9 to_9)))) refl)))

pub below_is_legal : IsLegal counting above_3 (Step.Opens open_below)
below_is_legal = record {
  goes_on = refl;
  carries = (two_to_three, record { exact = refl; projects = below_projects });
  unbroken = ap₂ (λ (b c : Bool). rule 3 (cond {A = Option By} (b && true) None (Some ByStep)) (rule 9 (or_else (option_map ByLemma (cond {A = Option ℕ} (not c) (Some 0) None)) None) None)) below_area (cover-Literal below_lits to_9);
}
