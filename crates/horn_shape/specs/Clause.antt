-- The Horn clause of an assertion, or the subterm for which it has none.
use Rattle.std.specs.Prelude.{◌≡◌, ◌≤◌, ℕ, [], slice_get, length, Option, Some, None, Ok, Err, Bool, false, ◌&&◌, nat_lt}
use Rattle.std.specs.List.{AllByRecursion}
use Rattle.base.specs.Limits.{most_arguments, most_assertions, most_predicates}
use Rattle.term_tree.specs.declared.sort.Sort.TheVariants.{Bool as BoolSort}
use Rattle.term_tree.specs.declared.node.TermId.{TermId}
use Rattle.term_tree.specs.declared.script.Assertion.{Assertion}
use Rattle.term_tree.specs.declared.script.Script.{Script}
use Rattle.term_tree.specs.Legal.{IsLegal}
use Rattle.horn_shape.specs.declared.clause.HornClause.{HornClause}
use Rattle.horn_shape.specs.Shape.{Content, Reading, clause_reading}

-- every assertion is a closed Bool term over the declared predicates, and there are few enough of each
pub record IsLegalScript (script : Script) : Type 0 where
  pub asserts : AllByRecursion (λ a. IsLegal script.preds script.terms.nodes [] BoolSort a.term.0) script.asserts
  pub few_asserts : length script.asserts ≤ most_assertions
  pub few_preds : length script.preds ≤ most_predicates
  pub few_args : AllByRecursion (λ p. length p.args ≤ most_arguments) script.preds

abbrev pub is_in : Script → Option Assertion → Bool
is_in script None = false
is_in script (Some a) = nat_lt a.term.0 (length script.terms.nodes)

-- the assertion of that number is there, and its term is
abbrev pub has_assertion : Script → ℕ → Bool
has_assertion script index = nat_lt index most_assertions && is_in script (slice_get script.asserts index)

-- the assertion's term as a clause
abbrev pub assertion_reading : Script → Assertion → Reading
assertion_reading script a = clause_reading script.terms.nodes a.term.0 (record { term = a.term; lets = [] })

-- the variables, body atoms, guards and head of a clause, without the number of its assertion
abbrev pub content_of : HornClause → Content
content_of clause = record { vars = clause.vars; atoms = clause.atoms; guards = clause.guards; head = clause.head }

-- the clause of the assertion of that number
pub record IsClauseOf (script : Script) (index : ℕ) (clause : HornClause) : Type 0 where
  pub assertion : Assertion
  pub there : slice_get script.asserts index ≡ Some assertion
  pub reading : assertion_reading script assertion ≡ Ok (content_of clause)
  pub number : clause.assertion ≡ index

-- the assertion of that number has no clause, because of the subterm that starts there
pub record IsNotHornAt (script : Script) (index offset : ℕ) : Type 0 where
  pub assertion : Assertion
  pub there : slice_get script.asserts index ≡ Some assertion
  pub misfit : TermId
  pub reading : assertion_reading script assertion ≡ Err misfit
  pub start : slice_get script.terms.offsets misfit.0 ≡ Some offset
