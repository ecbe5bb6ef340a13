-- The short run: what its tokens stand for.
use Rattle.std.proofs.Common.{◌≡◌, [], ◌∷◌, Bool, true, false, ◌&&◌, not, Some, None, ◌||◌, cond, refl, ap₂, sym, ◌∙◌, subst, arith}
use Rattle.std.specs.Prelude.{ℤ, pos, negsuc, ◌+ℤ◌, ◌*ℤ◌, nat_abs, ◌==◌, Option, slice_index_or}
use Rattle.std.specs.List.{list_all}
use Rattle.std.proofs.lemmas.Int.{ints}
use Rattle.std.proofs.lemmas.Bool.{eqb-true}
use Rattle.clause_form.specs.declared.clause.Clause.{Clause}
use Rattle.lin_atoms.specs.declared.form.Form.TheVariants.{Lit as Literal}
use Rattle.cube_forms.proofs.Public.{truth-Literal}
use Rattle.book_rules.specs.declared.by.By.{By}
use Rattle.book_rules.specs.declared.by.By.TheVariants.{Obligation as ByObligation, Step as ByStep}
use Rattle.book_rules.specs.Areas.{cover, stands_in}
use Rattle.book_rules.specs.Rules.{Broken, rule, broken}
use Rattle.book_rules.proofs.FormLemmas.{truth-True, cover-Literal, stands-Literal}
use Rattle.book_rules.specs.Instances.{IsInstance}
use Rattle.book_rules.specs.Steps.{Shows, accepts_used, meets}
use Rattle.book_rules.specs.Legal.{IsLegal}
use Rattle.book_rules.specs.Examples.{is_3, is_number, counting, contradiction, first_clause, bad_clause, at_start, after_raise, after_open, after_lemma, open_3, fact_false, lemma_not_3, raise_by, through_first, through_bad}

pub raise_is_legal : IsLegal counting at_start (raise_by [])
raise_is_legal = record { goes_on = refl; carries = (tt, tt); unbroken = refl }

pub fact_is_legal : IsLegal contradiction at_start fact_false
fact_is_legal = record { goes_on = refl; carries = record { clause = _; there = refl; instance = record { whole = refl; guard = truth-True [] }; short = refl }; unbroken = refl }

-- the area and the cube fit: the tests of the guard, a form of one literal, are what they say
pub open_fits : (others : Broken) → rule 3 (cond {A = Option By} (((cover (is_3 ∷ []) (Literal is_3) && true) && (((stands_in is_3 (Literal is_3) || false) || false) && true)) && true) None (Some ByStep)) others ≡ others
open_fits others = ap₂ (λ (c d : Bool). rule 3 (cond {A = Option By} (((c && true) && (((d || false) || false) && true)) && true) None (Some ByStep)) others) (cover-Literal (is_3 ∷ []) is_3) (stands-Literal is_3 is_3)

pub open_is_legal : IsLegal counting after_raise open_3
open_is_legal = record {
  goes_on = refl;
  carries = (
    record { clause = bad_clause; there = refl; instance = record { whole = refl; guard = truth-Literal (pos 3 ∷ []) is_3 }; short = refl },
    record { exact = refl; projects = record { variables = refl; has_model = refl; extends = λ p holds. record { whole = p; same = λ v kept. refl; holds = holds } } },
  );
  unbroken = open_fits None;
}

-- the same cube again: only the sibling is in its way
pub open_again : broken counting after_open open_3 ≡ Some (7, ByObligation 1)
open_again = open_fits (Some (7, ByObligation 1))

-- 0 isn't 3
apart : (x : ℤ) → (nat_abs (pos 1 *ℤ x +ℤ pos 0 +ℤ pos 0) == 0) ≡ true → not ((nat_abs (pos 1 *ℤ x +ℤ pos 0 +ℤ negsuc 2) == 0) && true) ≡ true
apart x h =
    let zero_is : nat_abs (pos 1 *ℤ x +ℤ pos 0 +ℤ pos 0) ≡ 0 = eqb-true _ 0 h in
    let is : x ≡ pos 0 = omega (arith, ints, zero_is) in
    rw is refl

pub shows_first : Shows counting through_first
shows_first clause point there instance used =
    let same : first_clause ≡ clause = cc in
    subst (λ (c : Clause). IsInstance c point → meets point c.head through_first.goal ≡ true) same (λ i. apart (slice_index_or point 0 (pos 0)) (sym (truth-Literal point (is_number 0 (pos 0))) ∙ i.guard)) instance

clash : (b : Bool) → b ≡ true → (not (b && true) && true) ≡ true → false ≡ true
clash true is h = h
clash false is h = is

pub shows_bad : Shows counting through_bad
shows_bad clause point there instance used =
    let same : bad_clause ≡ clause = cc in
    subst (λ (c : Clause). IsInstance c point → list_all (accepts_used point c.atoms) through_bad.used ≡ true → meets point c.head through_bad.goal ≡ true) same
    (λ i u. clash (nat_abs (pos 1 *ℤ slice_index_or point 0 (pos 0) +ℤ pos 0 +ℤ negsuc 2) == 0) (sym (truth-Literal point is_3) ∙ i.guard) u) instance used

pub lemma_is_legal : IsLegal counting after_open (lemma_not_3 1 (through_first ∷ []))
lemma_is_legal = record { goes_on = refl; carries = (shows_first, tt); unbroken = refl }

pub again_is_legal : IsLegal counting after_lemma (raise_by (through_bad ∷ []))
again_is_legal = record { goes_on = refl; carries = ((shows_bad, tt), tt); unbroken = refl }
