-- What is found of the lines of an unsat answer: that they derive false, the first step that is wrong, or the first that can't
-- be evaluated in 128 bits. Steps are numbered from 1, as they are printed.
use Rattle.std.specs.Prelude.{◌≡◌, ◌<◌, ◌≤◌, ℕ, suc, List, [], ◌∷◌, ◌++◌, length, Some, None, slice_get, ◌⊎◌}
use Rattle.std.specs.List.{All, Contains}
use Rattle.term_tree.specs.declared.node.Node.{Node}
use Rattle.term_tree.specs.declared.script.Assertion.{Assertion}
use Rattle.term_tree.specs.declared.script.Script.{Script}
use Rattle.term_tree.specs.Subterms.{IsSubterm}
use Rattle.term_tree.specs.Truth.{HaveSorts}
use Rattle.term_tree.specs.Value.{Environment, environment_of}
use Rattle.term_tree.specs.Width.{IsWideTerm}
use Rattle.horn_shape.specs.declared.clause.AtomUse.{AtomUse}
use Rattle.horn_shape.specs.declared.clause.HornClause.{HornClause}
use Rattle.horn_shape.specs.declared.clause.Part.{Part}
use Rattle.horn_shape.specs.Clause.{IsClauseOf}
use Rattle.answer_text.specs.declared.answer.Line.{Line}
use Rattle.cert_derivations.specs.Claims.{DeriveFalse, IsLine}
use Rattle.check_derivation.specs.declared.finding.Finding.{Finding}
use Rattle.check_derivation.specs.declared.finding.Finding.TheVariants.{Derives, WrongAt, WideAt}

-- each assertion has a clause
abbrev pub IsHornScript : Script → Type 0
IsHornScript script = (index : ℕ) (assertion : Assertion) → slice_get script.asserts index ≡ Some assertion → (clause : HornClause) × IsClauseOf script index clause

-- the lines before that place, from 0, are right
abbrev pub AreRightBefore : Script → List Line → ℕ → Type 0
AreRightBefore script lines place = (i : ℕ) (line : Line) → i < place → slice_get lines i ≡ Some line → IsLine script lines i line

-- the step of that number is this line, and those before it are right
pub record IsLineReached (script : Script) (lines : List Line) (number : ℕ) (line : Line) : Type 0 where
  pub place : ℕ
  pub numbered : number ≡ suc place
  pub there : slice_get lines place ≡ Some line
  pub before : AreRightBefore script lines place

-- wrong steps

-- the first step that isn't right: another number than its place has, no such assertion, values that aren't of the sorts of its
-- variables, premises that aren't as many as its body atoms or not among the steps before, a guard that is false, a premise
-- that doesn't conclude its body atom, or another conclusion than its head
pub record IsFirstWrong (script : Script) (lines : List Line) (number : ℕ) : Type 0 where
  pub line : Line
  pub reached : IsLineReached script lines number line
  pub wrong : IsLine script lines reached.place line → ⊥

-- each step is right, this is their number, and the last doesn't conclude false, or there is none
pub record EndsElsewhere (script : Script) (lines : List Line) (number : ℕ) : Type 0 where
  pub counted : number ≡ length lines
  pub right : AreRightBefore script lines (length lines)
  pub not_false : (before : List Line) (last : Line) → lines ≡ before ++ last ∷ [] → last.head ≡ None → ⊥

-- the lines don't derive false: that step is the first that isn't right, or all are and it is the last (0 for none)
abbrev pub IsWrongAt : Script → List Line → ℕ → Type 0
IsWrongAt script lines number = IsFirstWrong script lines number ⊎ EndsElsewhere script lines number

-- steps that can't be evaluated in 128 bits

-- a guard of the clause, or an argument of a body atom or of the head
abbrev pub IsPartOf : HornClause → Part → Type 0
IsPartOf clause part = Contains clause.guards part ⊎ ((atom : AtomUse) × (Contains clause.atoms atom ⊎ (clause.head ≡ Some atom)) × Contains atom.args part)

-- the exact value of this subterm of the part, or of a prefix of its sum, product or difference, doesn't fit
abbrev pub HasWide : List Node → Environment → Part → ℕ → Type 0
HasWide nodes env part term = IsSubterm nodes part.term.0 term × IsWideTerm nodes term env

-- a term of the step's assertion doesn't fit at the step's values. All that can be told without a term's value is right: the
-- number, the assertion, as many premises as body atoms, each among the steps before, and values of the sorts of the variables
pub record IsWideAt (script : Script) (lines : List Line) (number term : ℕ) : Type 0 where
  pub line : Line
  pub reached : IsLineReached script lines number line
  pub assertion : ℕ
  pub names : line.assertion ≡ suc assertion
  pub clause : HornClause
  pub clause_is : IsClauseOf script assertion clause
  pub place_is : line.number ≡ number
  pub counted : length line.premises ≡ length clause.atoms
  pub earlier : All (λ p. (1 ≤ p) × (p ≤ reached.place)) line.premises
  pub sorts : HaveSorts clause.vars line.values
  pub part : Part
  pub of_clause : IsPartOf clause part
  pub wide : HasWide script.terms.nodes (environment_of line.values) part term

abbrev pub Finds : Script → List Line → Finding → Type 0
Finds script lines Derives = DeriveFalse script lines
Finds script lines (WrongAt number) = IsWrongAt script lines number
Finds script lines (WideAt number term) = IsWideAt script lines number term.0
