-- Definitions are a solution exactly where no instance breaks the clause of an assertion.
use Rattle.std.proofs.Common.{◌≡◌, ℕ, suc, List, [], ◌∷◌, refl}
use Rattle.std.specs.Prelude.{slice_get, Some}
use Rattle.std.specs.List.{AllByRecursion}
use Rattle.term_tree.specs.declared.definition.Definition.{Definition}
use Rattle.term_tree.specs.declared.scalar.Value.{Value}
use Rattle.term_tree.specs.declared.script.Assertion.{Assertion}
use Rattle.term_tree.specs.declared.script.Script.{Script}
use Rattle.term_tree.specs.declared.sort.Sort.TheVariants.{Bool as BoolSort}
use Rattle.term_tree.specs.Arena.{IsArena}
use Rattle.term_tree.specs.Legal.{IsLegal}
use Rattle.term_tree.specs.Solution.{AreFormulas, DefinesEach, IsSolution, IsTrueUnder, interpretation_of}
use Rattle.horn_shape.specs.declared.clause.HornClause.{HornClause}
use Rattle.horn_shape.specs.Breaking.{Breaks}
use Rattle.horn_shape.specs.Clause.{IsClauseOf, IsLegalScript}
use Rattle.horn_shape.proofs.BreakingLemmas.{true_is_unbroken, unbroken_is_true}
use Rattle.horn_shape.proofs.InstanceLemmas.{all_get}

all_from : {X : Type 0} (P : X → Type 0) (xs : List X) → ((i : ℕ) (x : X) → slice_get xs i ≡ Some x → P x) → AllByRecursion P xs
all_from P [] h = tt
all_from P (x ∷ xs) h = (h 0 x refl, all_from P xs (λ i y e. h (suc i) y e))

module _ (script : Script) (definitions : List Definition) (arena : IsArena script.terms.nodes) (legal : IsLegalScript script) where
  pub own_legal : (index : ℕ) (a : Assertion) → slice_get script.asserts index ≡ Some a → IsLegal script.preds script.terms.nodes [] BoolSort a.term.0
  own_legal index a is = all_get (λ b. IsLegal script.preds script.terms.nodes [] BoolSort b.term.0) script.asserts index a legal.asserts is

  pub solution_unbroken : IsSolution script definitions → (index : ℕ) (clause : HornClause) (values : List Value) → IsClauseOf script index clause
      → Breaks (interpretation_of definitions) script clause values → ⊥
  solution_unbroken solution index clause values told breaks =
      true_is_unbroken script definitions index told.assertion clause arena told.there (own_legal index told.assertion told.there) told solution.defined solution.formed
      (all_get (IsTrueUnder definitions script) script.asserts index told.assertion solution.satisfied told.there) values breaks

  pub unbroken_solution : DefinesEach 0 script.preds definitions → AreFormulas script.preds definitions
      → ((index : ℕ) (a : Assertion) → slice_get script.asserts index ≡ Some a → (clause : HornClause) × IsClauseOf script index clause)
      → ((index : ℕ) (clause : HornClause) (values : List Value) → IsClauseOf script index clause → Breaks (interpretation_of definitions) script clause values → ⊥) → IsSolution script definitions
  unbroken_solution defines formed clauses unbroken = record {
    defined = defines;
    formed = formed;
    satisfied = all_from (IsTrueUnder definitions script) script.asserts (λ index a is.
        let c = clauses index a is in
        unbroken_is_true script definitions index a c.0 arena is (own_legal index a is) c.1 defines formed (λ values breaks. unbroken index c.0 values c.1 breaks));
  }
