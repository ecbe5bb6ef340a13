-- The assertions of two scripts that the same commands spell, one by one.
use Rattle.std.proofs.Common.{◌≡◌, ℕ, zero, suc, ◌+◌, List, [], ◌∷◌, ap, sym, ◌∙◌, subst, arith}
use Rattle.std.specs.Prelude.{slice_get, Some}
use Rattle.term_tree.specs.declared.script.Assertion.{Assertion}
use Rattle.term_tree.specs.declared.script.Script.{Script}
use Rattle.term_check.specs.Term.{Term}
use Rattle.sort_check.specs.Commands.{Command}
use Rattle.sort_check.specs.Commands.Command.{SetLogic, Inform, Declare, Assert, CheckSat, GetModel, Exit}
use Rattle.sort_check.specs.Scripts.{AreAsserted, IsScriptOf}
use Rattle.clause_readings.specs.Layout.{AreCommandsLaid}
use Rattle.clause_readings.proofs.AssertionLemmas.{AreAssertionsMatched, AreScriptsMatched}
use Rattle.clause_readings.proofs.MeetingLemmas.{IsMet, met_alike, met_at_top, one_to_one, same_starts}

-- the assertions of that number are of one tree, and their terms match
pub record IsTwin (s t : Script) (index : ℕ) (a b : Assertion) : Type 0 where
  pub tree : Term
  pub scripts : AreScriptsMatched (IsMet s.terms t.terms tree a.term.0 b.term.0) s t
  pub assertions : AreAssertionsMatched (IsMet s.terms t.terms tree a.term.0 b.term.0) s t index a b

-- from a number on
abbrev pub AreTwins : Script → Script → ℕ → List Assertion → List Assertion → Type 0
AreTwins s t index [] [] = Unit {0}
AreTwins s t index [] (b ∷ others) = ⊥
AreTwins s t index (a ∷ asserts) [] = ⊥
AreTwins s t index (a ∷ asserts) (b ∷ others) = IsTwin s t index a b × AreTwins s t (index + 1) asserts others

-- the assertions from a number on
abbrev AreFrom : List Assertion → ℕ → List Assertion → Type 0
AreFrom all index rest = (k n : ℕ) (a : Assertion) → n ≡ index + k → slice_get rest k ≡ Some a → slice_get all n ≡ Some a

module _ (s t : Script) (commands : List Command) (ours : IsScriptOf commands s) (theirs : IsScriptOf commands t) where
  abbrev Twins : ℕ → List Assertion → List Assertion → Type 0
  Twins index asserts others = AreTwins s t index asserts others

  each_twin : (number index : ℕ) (rest : List Command) (asserts others : List Assertion) → AreCommandsLaid rest → AreAsserted s.terms number asserts rest → AreAsserted t.terms number others rest
      → AreFrom s.asserts index asserts → AreFrom t.asserts index others → Twins index asserts others
  each_twin number index [] asserts others laid x y from other_from = subst (λ (xs : List Assertion). Twins index xs others) (sym x) (subst (Twins index []) (sym y) tt)
  each_twin number index (Assert at term ∷ rest) asserts others laid x y from other_from =
      let here = from 0 index x.0 (omega arith) (ap (λ (xs : List Assertion). slice_get xs 0) x.2) in
      let there = other_from 0 index y.0 (omega arith) (ap (λ (xs : List Assertion). slice_get xs 0) y.2) in
      let one : IsTwin s t index x.0 y.0 =
      record {
        tree = term;
        scripts = record {
          arena = ours.arena;
          other_arena = theirs.arena;
          preds = ours.preds ∙ sym theirs.preds;
          like = met_alike s.terms t.terms term x.0.term.0 y.0.term.0;
          one = one_to_one s.terms t.terms term x.0.term.0 y.0.term.0;
          starts = same_starts s.terms t.terms term x.0.term.0 y.0.term.0;
        };
        assertions = record {
          here = here;
          there = there;
          terms = met_at_top s.terms t.terms term x.0.term.0 y.0.term.0 laid.0.0 laid.0.1 laid.0.2 x.5 y.5;
          offset = x.3 ∙ sym y.3;
          command = x.4 ∙ sym y.4;
        };
      }
      in
      let others_are : Twins (index + 1) x.1 y.1 =
      each_twin (number + 1) (index + 1) rest x.1 y.1 laid.1 x.6 y.6
      (λ k n a e is. from (suc k) n a (omega (arith, e)) (ap (λ (xs : List Assertion). slice_get xs (suc k)) x.2 ∙ is))
      (λ k n a e is. other_from (suc k) n a (omega (arith, e)) (ap (λ (xs : List Assertion). slice_get xs (suc k)) y.2 ∙ is)) in
      subst (λ (xs : List Assertion). Twins index xs others) (sym x.2) (subst (Twins index (x.0 ∷ x.1)) (sym y.2) (one, others_are))
  each_twin number index (SetLogic ∷ rest) asserts others laid x y from other_from = each_twin (number + 1) index rest asserts others laid x y from other_from
  each_twin number index (Inform ∷ rest) asserts others laid x y from other_from = each_twin (number + 1) index rest asserts others laid x y from other_from
  each_twin number index (Declare pred ∷ rest) asserts others laid x y from other_from = each_twin (number + 1) index rest asserts others laid x y from other_from
  each_twin number index (CheckSat ∷ rest) asserts others laid x y from other_from = each_twin (number + 1) index rest asserts others laid x y from other_from
  each_twin number index (GetModel ∷ rest) asserts others laid x y from other_from = each_twin (number + 1) index rest asserts others laid x y from other_from
  each_twin number index (Exit ∷ rest) asserts others laid x y from other_from = each_twin (number + 1) index rest asserts others laid x y from other_from

  pub all_twins : AreCommandsLaid commands → AreTwins s t 0 s.asserts t.asserts
  all_twins laid =
      each_twin 0 0 commands s.asserts t.asserts laid ours.asserts theirs.asserts
      (λ k n a e is. ap (λ (m : ℕ). slice_get s.asserts m) (omega (arith, e)) ∙ is)
      (λ k n a e is. ap (λ (m : ℕ). slice_get t.asserts m) (omega (arith, e)) ∙ is)

-- the twin of one
pub record HasTwin (s t : Script) (index : ℕ) (a : Assertion) : Type 0 where
  pub other : Assertion
  pub twin : IsTwin s t index a other

pub twin_at : (s t : Script) (index number k : ℕ) (asserts others : List Assertion) (a : Assertion) → number ≡ index + k → AreTwins s t index asserts others → slice_get asserts k ≡ Some a
    → HasTwin s t number a
twin_at s t index number k [] others a e twins is = absurd (cc)
twin_at s t index number k (x ∷ asserts) [] a e twins is = absurd twins
twin_at s t index number zero (x ∷ asserts) (y ∷ others) a e twins is =
    let same : x ≡ a = cc in
    let here : index ≡ number = omega (arith, e) in
    subst (HasTwin s t number) same (subst (λ (n : ℕ). HasTwin s t n x) here (record { other = y; twin = twins.0 }))
twin_at s t index number (suc k) (x ∷ asserts) (y ∷ others) a e twins is = twin_at s t (index + 1) number k asserts others a (omega (arith, e)) twins.1 is
