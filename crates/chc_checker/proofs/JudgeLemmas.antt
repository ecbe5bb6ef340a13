-- One assertion under definitions, by what is decided of the formula of the instances that make it false.
use Rattle.std.proofs.Common.{◌≡◌, ℕ, zero, suc, List, [], ◌∷◌, length, take, Bool, true, false, ◌&&◌, ap, sym, ◌∙◌, subst, arith}
use Rattle.std.specs.Prelude.{slice_get, Some, None, ℤ}
use Rattle.std.specs.List.{AllByRecursion}
use Rattle.term_tree.specs.declared.definition.Definition.{Definition}
use Rattle.term_tree.specs.declared.script.Assertion.{Assertion}
use Rattle.term_tree.specs.declared.script.Script.{Script}
use Rattle.term_tree.specs.Arena.{IsArena}
use Rattle.term_tree.specs.Solution.{AreFormulas, DefinesEach, IsTrueUnder}
use Rattle.term_tree.proofs.Public.{both_true}
use Rattle.horn_shape.specs.declared.clause.HornClause.{HornClause}
use Rattle.horn_shape.specs.Clause.{IsClauseOf, IsLegalScript}
use Rattle.horn_shape.proofs.BreakingLemmas.{unbroken_is_true}
use Rattle.horn_shape.proofs.SolutionLemmas.{own_legal}
use Rattle.lin_atoms.specs.Truth.{truth}
use Rattle.lin_atoms.specs.declared.form.Form.{Form}
use Rattle.lin_atoms.specs.declared.form.Form.TheViews.{And}
use Rattle.lin_atoms.proofs.Public.{truth-And}
use Rattle.refutation_trees.specs.Refutation.{HasNoPoint}
use Rattle.clause_normal.specs.Normal.{first_without_room, normal_clause}
use Rattle.clause_laws.specs.Defined.{breaking_form, breaking_variables}
use Rattle.clause_laws.specs.Point.{IsBreakingPointOver}
use Rattle.clause_laws.proofs.BreakingLemmas.{broken_extends, point_breaks}
use Rattle.check_derivation.proofs.Public.{clause_once}
use Rattle.chc_checker.specs.Verdicts.{IsFalseAt, IsNormalScript, IsAssertionReached}

differs : true ≡ false → ⊥
differs e = absurd (cc)

one_truth : (point : List ℤ) (form : Form) → truth point (And (form ∷ [])) ≡ (truth point form && true)
one_truth point form = truth-And point (form ∷ [])

module _ (script : Script) (defs : List Definition) (number : ℕ) (clause : HornClause) (arena : IsArena script.terms.nodes) (legal : IsLegalScript script)
    (defines : DefinesEach 0 script.preds defs) (formed : AreFormulas script.preds defs) (reached : IsAssertionReached script defs number clause) where
  abbrev form : Form
  form = breaking_form defs (normal_clause script clause)

  -- without a point it is true
  pub true_here : HasNoPoint (And (form ∷ [])) → (index : ℕ) (assertion : Assertion) → number ≡ suc index → slice_get script.asserts index ≡ Some assertion → IsTrueUnder defs script assertion
  true_here none index assertion numbered there =
      let own = reached.numbered in
      let same : reached.index ≡ index = omega (arith, own, numbered) in
      let at : slice_get script.asserts reached.index ≡ Some assertion = ap (slice_get script.asserts) same ∙ there in
      unbroken_is_true script defs reached.index assertion clause arena at (own_legal script defs arena legal reached.index assertion at) reached.is defines formed (λ values broken.
      let over = broken_extends script reached.index clause arena legal reached.is defs defines formed values broken in
      let holds : truth over.0 (And (form ∷ [])) ≡ true = one_truth over.0 form ∙ ap (λ (b : Bool). b && true) (over.1).form in
      differs (sym holds ∙ none over.0))

  -- a point makes it false
  pub false_here : (point integers : List ℤ) → length point ≡ breaking_variables defs (normal_clause script clause) → truth point (And (form ∷ [])) ≡ true → integers ≡ take (length clause.vars) point
      → IsFalseAt script defs number integers
  false_here point integers long holds are =
      let over : IsBreakingPointOver defs (normal_clause script clause) integers point =
      record { front = sym are; each = long; form = (both_true (truth point form) true (sym (one_truth point form) ∙ holds)).0 } in
      let broken = point_breaks script reached.index clause arena legal reached.is defs defines formed integers point over in
      record { clause = clause; reached = reached; values = broken.0; same = broken.1; breaks = broken.2 }

-- every number in the clause that is read has room
pub narrow_here : (script : Script) (index : ℕ) (clause : HornClause) → IsNormalScript script → IsClauseOf script index clause → first_without_room script clause ≡ None
narrow_here script index clause normal is =
    let found = normal index is.assertion is.there in
    subst (λ (c : HornClause). first_without_room script c ≡ None) (clause_once script index found.0 clause found.1 is) found.2

pub all_more : {X : Type 0} (P : X → Type 0) (xs : List X) (i : ℕ) (x : X) → slice_get xs i ≡ Some x → AllByRecursion P (take i xs) → P x → AllByRecursion P (take (suc i) xs)
all_more P [] i x at all one = absurd (cc)
all_more P (y ∷ xs) zero x at all one = let same : y ≡ x = cc in (subst P (sym same) one, tt)
all_more P (y ∷ xs) (suc i) x at all one = (all.0, all_more P xs i x at all.1 one)
