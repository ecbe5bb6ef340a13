-- Derivations of false or of a tuple as lists of steps (Komuravelli, Gurfinkel and Chaki, "SMT-based model checking for
-- recursive programs", section 2): each step is an instance of a clause, and names for each body atom, in order, an earlier
-- step whose conclusion is that atom.
use Rattle.std.specs.Prelude.{◌≡◌, ℕ, List, [], ◌∷◌, ◌++◌, Some, slice_get, true}
use Rattle.std.specs.List.{All, Contains}
use Rattle.clause_form.specs.System.{Clauses}
use Rattle.clause_form.specs.declared.clause.Clause.{Clause}
use Rattle.book_rules.specs.FactRules.{are_facts_of}
use Rattle.book_rules.specs.Instances.{IsInstance, body_at, head_at}
use Rattle.book_rules.specs.State.{Fact}

-- the fact of number n is a step after these
pub record IsStep (sys : Clauses) (facts : List Fact) (before : List ℕ) (n : ℕ) : Type 0 where
  pub fact : Fact
  pub there : slice_get facts n ≡ Some fact
  pub clause : Clause
  pub of_clause : slice_get sys.clauses fact.clause ≡ Some clause
  pub instance : IsInstance clause fact.point
  pub head : head_at fact.point clause ≡ fact.conclusion
  pub body : are_facts_of facts fact.premises (body_at fact.point clause) ≡ true
  pub earlier : All (λ p. Contains before p) fact.premises

-- these are steps, one after another
abbrev pub AreStepsAfter : Clauses → List Fact → List ℕ → List ℕ → Type 0
AreStepsAfter sys facts before [] = Unit {0}
AreStepsAfter sys facts before (n ∷ steps) = IsStep sys facts before n × AreStepsAfter sys facts (before ++ n ∷ []) steps

-- a derivation that ends in the fact of number n
pub record IsDerivation (sys : Clauses) (facts : List Fact) (n : ℕ) (steps : List ℕ) : Type 0 where
  pub before : List ℕ
  pub ends : steps ≡ before ++ n ∷ []
  pub each : AreStepsAfter sys facts [] steps
