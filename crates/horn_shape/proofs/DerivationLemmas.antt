-- Under a solution each step of a derivation concludes what is true, so none concludes false.
use Rattle.std.proofs.Common.{◌≡◌, ℕ, zero, suc, List, [], ◌∷◌, ◌++◌, true, sym, subst, map}
use Rattle.std.specs.Prelude.{Option, Some, None}
use Rattle.std.specs.List.{AllByRecursion}
use Rattle.term_tree.specs.declared.sort.Sort.TheVariants.{Bool as BoolSort}
use Rattle.term_tree.specs.declared.definition.Definition.{Definition}
use Rattle.term_tree.specs.declared.scalar.Value.TheVariants.{Bool as Truth}
use Rattle.term_tree.specs.declared.script.Script.{Script}
use Rattle.term_tree.specs.Arena.{IsArena}
use Rattle.term_tree.specs.Legal.{IsLegal}
use Rattle.term_tree.specs.Solution.{IsSolution, interpretation_of}
use Rattle.term_tree.specs.Truth.{Interpretation, HasValue}
use Rattle.term_tree.specs.Value.{Environment}
use Rattle.horn_shape.specs.Breaking.{IsTrueAtom, IsTrueHead}
use Rattle.horn_shape.specs.Clause.{IsLegalScript}
use Rattle.horn_shape.specs.Derivation.{Step, IsStep, IsDerivationAfter, IsDerivableWithin, concluded}
use Rattle.horn_shape.specs.Instance.{GroundAtom, premises_of}
use Rattle.horn_shape.proofs.BreakingLemmas.{kept}
use Rattle.horn_shape.proofs.InstanceLemmas.{all_get}

found_true : (I : Interpretation) (earlier : List Step) (p : ℕ) (x : Option GroundAtom) → AllByRecursion (λ s. IsTrueHead I s.conclusion) earlier → concluded earlier p ≡ Some x → IsTrueHead I x
found_true I [] p x all h = absurd (cc)
found_true I (s ∷ earlier) zero x all h = subst (λ (y : Option GroundAtom). IsTrueHead I y) (some_is s.conclusion x h) all.0
  where
    some_is : (a b : Option GroundAtom) → Some a ≡ Some b → a ≡ b
    some_is a b e = cc
found_true I (s ∷ earlier) (suc p) x all h = found_true I earlier p x all.1 h

premises_true : (I : Interpretation) (earlier : List Step) (ps : List ℕ) (atoms : List GroundAtom) → AllByRecursion (λ s. IsTrueHead I s.conclusion) earlier
    → map (concluded earlier) ps ≡ map (λ atom. Some (Some atom)) atoms → AllByRecursion (IsTrueAtom I) atoms
premises_true I earlier [] [] all h = tt
premises_true I earlier [] (a ∷ atoms) all h = absurd (cc)
premises_true I earlier (p ∷ ps) [] all h = absurd (cc)
premises_true I earlier (p ∷ ps) (a ∷ atoms) all h =
    let parts = cons_parts (concluded earlier p) (Some (Some a)) (map (concluded earlier) ps) (map (λ atom. Some (Some atom)) atoms) h in
    (found_true I earlier p (Some a) all parts.0, premises_true I earlier ps atoms all parts.1)
  where
    cons_parts : (x y : Option (Option GroundAtom)) (xs ys : List (Option (Option GroundAtom))) → x ∷ xs ≡ y ∷ ys → (x ≡ y) × (xs ≡ ys)
    cons_parts x y xs ys e = (cc, cc)

all_more : (P : Step → Type 0) (xs : List Step) (x : Step) → AllByRecursion P xs → P x → AllByRecursion P (xs ++ x ∷ [])
all_more P [] x all h = (h, tt)
all_more P (y ∷ xs) x all h = (all.0, all_more P xs x all.1 h)

all_last : (P : Step → Type 0) (xs : List Step) (x : Step) → AllByRecursion P (xs ++ x ∷ []) → P x
all_last P [] x all = all.0
all_last P (y ∷ xs) x all = all_last P xs x all.1

module _ (script : Script) (definitions : List Definition) (arena : IsArena script.terms.nodes) (legal : IsLegalScript script) (solution : IsSolution script definitions) where
  step_true : (earlier : List Step) (s : Step) → AllByRecursion (λ t. IsTrueHead (interpretation_of definitions) t.conclusion) earlier → IsStep script earlier s
      → IsTrueHead (interpretation_of definitions) s.conclusion
  step_true earlier s all is =
      let I = interpretation_of definitions in
      let a = is.clause_is.assertion in
      let term_legal = all_get (λ b. IsLegal script.preds script.terms.nodes [] BoolSort b.term.0) script.asserts s.assertion a legal.asserts is.clause_is.there in
      let true_under = all_get (λ b. (env : Environment) → HasValue I script.terms.nodes b.term.0 env (Truth true)) script.asserts s.assertion a solution.satisfied is.clause_is.there in
      subst (λ (x : Option GroundAtom). IsTrueHead I x) (sym is.conclusion)
      (kept script definitions s.assertion a is.clause arena is.clause_is.there term_legal is.clause_is solution.defined solution.formed true_under s.values is.instance
      (premises_true I earlier s.premises (premises_of script is.clause s.values) all is.premises))

  steps_true : (earlier steps : List Step) → AllByRecursion (λ t. IsTrueHead (interpretation_of definitions) t.conclusion) earlier → IsDerivationAfter script earlier steps
      → AllByRecursion (λ t. IsTrueHead (interpretation_of definitions) t.conclusion) steps
  steps_true earlier [] all h = tt
  steps_true earlier (s ∷ steps) all h =
      let here = step_true earlier s all h.0 in
      (here, steps_true (earlier ++ s ∷ []) steps (all_more (λ t. IsTrueHead (interpretation_of definitions) t.conclusion) earlier s all here) h.1)

  -- with a derivation of false there is no solution
  pub one_answer : (h : ℕ) → IsDerivableWithin script h None → ⊥
  one_answer h d =
      subst (λ (x : Option GroundAtom). IsTrueHead (interpretation_of definitions) x) d.concludes
      (all_last (λ t. IsTrueHead (interpretation_of definitions) t.conclusion) d.steps d.last (steps_true [] (d.steps ++ d.last ∷ []) tt d.derivation))
