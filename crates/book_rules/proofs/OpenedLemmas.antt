-- A legal Open, by its rules: each point of its cube is reached.
use Rattle.std.proofs.Common.{◌≡◌, ◌-◌, ◌<◌, ◌≤◌, List, length, Bool, true, false, ◌&&◌, not, cond, Some, None, ap, sym, ◌∙◌, subst, arith}
use Rattle.std.specs.Prelude.{Option, ℤ, nat_le, nat_lt, ◌==◌, slice_get}
use Rattle.std.specs.List.{list_any}
use Rattle.std.proofs.lemmas.Bool.Decides.{nat_tests}
use Rattle.clause_form.specs.System.{Clauses, is_system, is_clause, is_atom}
use Rattle.clause_form.specs.declared.atom.Atom.{Atom}
use Rattle.clause_form.specs.declared.clause.Clause.{Clause}
use Rattle.clause_form.proofs.Public.{keeps}
use Rattle.cube_forms.specs.Cubes.{cube_holds}
use Rattle.book_rules.specs.declared.by.By.{By}
use Rattle.book_rules.specs.declared.by.By.TheVariants.{Lemma as ByLemma, Obligation as ByObligation, Step as ByStep}
use Rattle.book_rules.specs.Same.{same_cube}
use Rattle.book_rules.specs.Walks.{has, on, first_told}
use Rattle.book_rules.specs.Instances.{Ground, IsInstance, body_at, head_at}
use Rattle.book_rules.specs.Frames.{Framed, excludes, in_frame}
use Rattle.book_rules.specs.Areas.{is_area, knows, projected_cube, point_cube}
use Rattle.book_rules.specs.Proofs.{is_head}
use Rattle.book_rules.specs.State.{Obligation, State, holds}
use Rattle.book_rules.specs.Steps.{IsSeen, OpenStep, Step}
use Rattle.book_rules.specs.OpenRules.{parent_of, clause_of, atom_of, tuple_of, atom_fits, clause_fits, is_cube, shut_out, unknown, rule_1, rule_2, rule_3, rule_4, rule_5, rule_6, rule_7, rule_8, rule_9}
use Rattle.book_rules.specs.Legal.{IsLegal}
use Rattle.book_rules.specs.Reached.{IsReached}
use Rattle.book_rules.specs.Places.{AreOver}
use Rattle.book_rules.proofs.ListLemmas.{both_true, either_is, all_at, all_tested, cond_none, unless_none, none_told, untold_passes}
use Rattle.book_rules.proofs.SameLemmas.{cube_is}
use Rattle.book_rules.proofs.SoundLemmas.{unbroken}
use Rattle.book_rules.proofs.OrderedLemmas.{frame_from}
use Rattle.book_rules.proofs.PlaceLemmas.{point_alone}
use Rattle.book_rules.proofs.OverLemmas.{length_at, places-have}
use Rattle.book_rules.proofs.ReachLemmas.{area_has, projected_reaches}

-- what the rules say of the parent, clause and atom that are there
pub record AreOpened (s : State) (o : OpenStep) (parent : Obligation) (clause : Clause) (atom : Atom) : Type 0 where
  pub some : 0 < parent.level - 1
  pub fits : clause_fits s o parent clause ≡ true
  pub held : holds parent (head_at o.seen.point clause) ≡ true
  pub inside : first_told (shut_out s.lemmas (parent.level - 1)) (body_at o.seen.point clause) ≡ None
  pub known : first_told (unknown s.lemmas (parent.level - 1) o) clause.atoms ≡ None

opened_by : (sys : Clauses) (s : State) (o : OpenStep) (parent : Obligation) (clause : Clause) (atom : Atom) → parent_of s o ≡ Some parent → clause_of sys o ≡ Some clause
    → rule_2 s o ≡ None → rule_3 sys s o ≡ None → rule_4 sys s o ≡ None → rule_5 sys s o ≡ None → rule_9 sys s o ≡ None → AreOpened s o parent clause atom
opened_by sys s o parent clause atom there clause_there r2 r3 r4 r5 r9 =
    let at_2 : cond {A = Option By} (nat_lt parent.level 2) (Some (ByObligation o.parent)) None ≡ None = ap (λ (found : Option Obligation). on found (λ (p : Obligation). cond {A = Option By} (nat_lt p.level 2) (Some (ByObligation o.parent)) None)) (sym there) ∙ r2 in
    let low = (cond_none (nat_lt parent.level 2) (ByObligation o.parent) None at_2).0 in
    let two : 2 ≤ parent.level = grind (arith, nat_tests, low) in
    let at_3 : cond {A = Option By} (has (clause_of sys o) (clause_fits s o parent)) None (Some ByStep) ≡ None = ap (λ (found : Option Obligation). on found (λ (p : Obligation). cond {A = Option By} (has (clause_of sys o) (clause_fits s o p)) None (Some ByStep))) (sym there) ∙ r3 in
    let head_test : Obligation → Bool = λ p. has (clause_of sys o) (λ (c : Clause). holds p (head_at o.seen.point c)) in
    let tuple_test = has (atom_of sys o) (λ (a : Atom). cube_holds (tuple_of o a) o.cube) in
    let at_4 : cond {A = Option By} (head_test parent && tuple_test) None (Some (ByObligation o.parent)) ≡ None = ap (λ (found : Option Obligation). on found (λ (p : Obligation). cond {A = Option By} (head_test p && tuple_test) None (Some (ByObligation o.parent)))) (sym there) ∙ r4 in
    record {
      some = omega (arith, two);
      fits = ap (λ (found : Option Clause). has found (clause_fits s o parent)) (sym clause_there) ∙ (unless_none (has (clause_of sys o) (clause_fits s o parent)) ByStep None at_3).0;
      held = ap (λ (found : Option Clause). has found (λ (c : Clause). holds parent (head_at o.seen.point c))) (sym clause_there) ∙ (both_true (head_test parent) tuple_test (unless_none (head_test parent && tuple_test) (ByObligation o.parent) None at_4).0).0;
      inside = ap (λ (found : Option Clause). on found (λ (c : Clause). first_told (shut_out s.lemmas (parent.level - 1)) (body_at o.seen.point c))) (sym clause_there)
          ∙ ap (λ (found : Option Obligation). on found (λ (p : Obligation). on (clause_of sys o) (λ (c : Clause). first_told (shut_out s.lemmas (p.level - 1)) (body_at o.seen.point c)))) (sym there) ∙ r5;
      known = ap (λ (found : Option Clause). on found (λ (c : Clause). first_told (unknown s.lemmas (parent.level - 1) o) c.atoms)) (sym clause_there)
          ∙ ap (λ (found : Option Obligation). on found (λ (p : Obligation). on (clause_of sys o) (λ (c : Clause). first_told (unknown s.lemmas (p.level - 1) o) c.atoms))) (sym there) ∙ r9;
    }

-- a tuple in the cube of a single point is the step's own
point_reaches : (sys : Clauses) (s : State) (o : OpenStep) (parent : Obligation) (clause : Clause) (atom : Atom) → IsInstance clause o.seen.point → AreOpened s o parent clause atom
    → (tuple : List ℤ) → length tuple ≡ length atom.args → cube_holds tuple (point_cube (tuple_of o atom)) ≡ true → IsReached clause atom parent s.lemmas (parent.level - 1) tuple
point_reaches sys s o parent clause atom instance opened tuple long held =
    let k = parent.level - 1 in
    let same = length_at o.seen.point atom.args in
    let alike : length tuple ≡ length (tuple_of o atom) = omega (arith, long, same) in
    let none_excludes = none_told (shut_out s.lemmas k) (λ (a : Ground). list_any (λ (e : Framed). nat_le k e.level && excludes e.lemma a) s.lemmas ≡ false)
    (λ a told. untold_passes ByLemma (λ (e : Framed). nat_le k e.level && excludes e.lemma a) s.lemmas told) (body_at o.seen.point clause) opened.inside in
    record {
      point = o.seen.point;
      instance = instance;
      has_tuple = sym (point_alone tuple (tuple_of o atom) alike held);
      held = opened.held;
      inside = all_tested (λ (a : Ground). list_any (λ (e : Framed). nat_le k e.level && excludes e.lemma a) s.lemmas ≡ false) (in_frame s.lemmas k) (λ a. frame_from s.lemmas k a opened.some) (body_at o.seen.point clause) none_excludes;
    }

pub opened_reaches : (sys : Clauses) (s : State) (o : OpenStep) → is_system sys ≡ true → IsLegal sys s (Step.Opens o) → (parent : Obligation) (clause : Clause) (atom : Atom)
    → slice_get s.obligations o.parent ≡ Some parent → slice_get sys.clauses o.seen.clause ≡ Some clause → slice_get clause.atoms o.atom ≡ Some atom → AreOver sys s
    → (tuple : List ℤ) → length tuple ≡ length atom.args → cube_holds tuple o.cube ≡ true → IsReached clause atom parent s.lemmas (parent.level - 1) tuple
opened_reaches sys s o system legal parent clause atom there clause_there atom_there over tuple long held =
    let k = parent.level - 1 in
    let r1 = unbroken 1 (rule_1 s o) _ legal.unbroken in
    let r2 = unbroken 2 (rule_2 s o) _ r1.1 in
    let r3 = unbroken 3 (rule_3 sys s o) _ r2.1 in
    let r4 = unbroken 4 (rule_4 sys s o) _ r3.1 in
    let r5 = unbroken 5 (rule_5 sys s o) _ r4.1 in
    let r6 = unbroken 6 (rule_6 sys s o) _ r5.1 in
    let r7 = unbroken 7 (rule_7 sys s o) _ r6.1 in
    let r8 = unbroken 8 (rule_8 s o) _ r7.1 in
    let r9 = unbroken 9 (rule_9 sys s o) _ r8.1 in
    let opened = opened_by sys s o parent clause atom there clause_there r2.0 r3.0 r4.0 r5.0 r9.0 in
    let seen : IsSeen sys o.seen = (legal.carries).0 in
    let same_clause : seen.clause ≡ clause = some_same (seen.clause) clause (sym seen.there ∙ clause_there) in
    let instance = subst (λ (c : Clause). IsInstance c o.seen.point) same_clause seen.instance in
    let head_and_atom = both_true (is_head parent.pred clause.head) _ opened.fits in
    let fits : atom_fits s o parent clause atom ≡ true = ap (λ (found : Option Atom). has found (atom_fits s o parent clause)) (sym atom_there) ∙ head_and_atom.1 in
    let area_and_cube = both_true (is_area clause o.seen.point atom parent.cube s.lemmas k o.area) (is_cube s o atom) fits in
    let one = all_at (is_clause sys.preds) sys.clauses o.seen.clause clause clause_there system in
    let places = places-have sys s o.parent parent clause over one there head_and_atom.0 in
    let its_atom = all_at (is_atom sys.preds (length clause.sorts)) clause.atoms o.atom atom atom_there (keeps sys.preds clause one).atoms in
    let known = none_told (unknown s.lemmas k o) (λ (a : Atom). list_any (λ (e : Framed). nat_le k e.level && (e.lemma.pred == a.pred) && not (knows o.area a e.lemma.cube)) s.lemmas ≡ false)
    (λ a told. untold_passes ByLemma (λ (e : Framed). nat_le k e.level && (e.lemma.pred == a.pred) && not (knows o.area a e.lemma.cube)) s.lemmas told) clause.atoms opened.known in
    either_is (same_cube o.cube (projected_cube atom o.area)) _ (IsReached clause atom parent s.lemmas k tuple)
    (λ same. projected_reaches sys clause atom parent s.lemmas k o.area one its_atom head_and_atom.0 (area_has clause o.seen.point atom parent.cube s.lemmas k o.area area_and_cube.0) ((legal.carries).1).projects opened.some known places tuple long
    (ap (cube_holds tuple) (sym (cube_is o.cube (projected_cube atom o.area) same)) ∙ held))
    (λ other. point_reaches sys s o parent clause atom instance opened tuple long
    (ap (cube_holds tuple) (sym (cube_is o.cube (point_cube (tuple_of o atom)) (both_true (same_cube o.cube (point_cube (tuple_of o atom))) _ other).0)) ∙ held))
    area_and_cube.1 where
      some_same : (a b : Clause) → Some a ≡ Some b → a ≡ b
      some_same a b h = cc
