-- What a verdict on an answer to a script says. Assertions are numbered from 1 here, as they are printed.
use Rattle.std.specs.Prelude.{◌≡◌, ℕ, suc, ℤ, List, [], ◌∷◌, take, Some, None, true, false, nat_lt, slice_get, ◌⊎◌}
use Rattle.std.specs.List.{AllByRecursion}
use Rattle.term_tree.specs.declared.definition.Definition.{Definition}
use Rattle.term_tree.specs.declared.scalar.Value.{Value as Given}
use Rattle.term_tree.specs.declared.script.Assertion.{Assertion as Asserted}
use Rattle.term_tree.specs.declared.script.Script.{Script}
use Rattle.term_tree.specs.Solution.{AreFormulas, DefinesEach, IsSolution, IsTrueUnder, interpretation_of}
use Rattle.horn_shape.specs.declared.clause.HornClause.{HornClause}
use Rattle.horn_shape.specs.Breaking.{Breaks}
use Rattle.horn_shape.specs.Clause.{IsClauseOf}
use Rattle.lin_atoms.specs.declared.form.Form.TheViews.{And}
use Rattle.refutation_trees.specs.KeptEvidence.{given_evidence, given_form}
use Rattle.refutation_trees.specs.declared.gave_up.GaveUp.{GaveUp}
use Rattle.clause_form.specs.System.{most_variables}
use Rattle.clause_normal.specs.Normal.{first_without_room, normal_clause}
use Rattle.clause_laws.specs.Defined.{breaking_form, breaking_variables, breaking_wide}
use Rattle.clause_laws.specs.Point.{numbers}
use Rattle.lia_search.specs.Decides.{CountsTo}
use Rattle.answer_text.specs.Read.{IsBad, Spells}
use Rattle.answer_text.specs.declared.answer.Answer.{Answer}
use Rattle.answer_text.specs.declared.answer.Answer.TheVariants.{Sat, Unsat, Unknown}
use Rattle.answer_text.specs.declared.answer.Line.{Line}
use Rattle.cert_derivations.specs.Claims.{DeriveFalse}
use Rattle.check_derivation.specs.Findings.{IsWideAt, IsWrongAt}
use Rattle.chc_checker.specs.declared.verdict.Hidden.{Hidden}
use Rattle.chc_checker.specs.declared.verdict.Hidden.TheVariants.{Assertion, Step as AtStep}
use Rattle.chc_checker.specs.declared.verdict.Place.{Place}
use Rattle.chc_checker.specs.declared.verdict.Place.TheVariants.{Byte, Step, Instance}
use Rattle.chc_checker.specs.declared.verdict.Unshown.{Unshown}
use Rattle.chc_checker.specs.declared.verdict.Unshown.TheVariants.{Query, Variables, Value}
use Rattle.chc_checker.specs.declared.verdict.Verdict.{Verdict}
use Rattle.chc_checker.specs.declared.verdict.Verdict.TheVariants.{Valid, Wrong, NotShown}

-- what can be checked

-- each assertion has a clause, and every number in its linear forms has room
abbrev pub IsNormalScript : Script → Type 0
IsNormalScript script = (index : ℕ) (assertion : Asserted) → slice_get script.asserts index ≡ Some assertion
    → (clause : HornClause) × IsClauseOf script index clause × (first_without_room script clause ≡ None)

-- a formula for each predicate, in order of declaration, or the steps of a derivation; an unknown answer claims nothing
abbrev pub IsCheckable : Script → Answer → Type 0
IsCheckable script (Sat definitions) = DefinesEach 0 script.preds definitions × AreFormulas script.preds definitions
IsCheckable script (Unsat lines) = Unit {0}
IsCheckable script (Unknown level cause) = ⊥

-- valid answers

-- the definitions are a solution of the script, or the steps a derivation of false by its assertions
abbrev pub IsValid : Script → Answer → Type 0
IsValid script (Sat definitions) = IsSolution script definitions
IsValid script (Unsat lines) = DeriveFalse script lines
IsValid script (Unknown level cause) = ⊥

-- the first assertion that isn't true under the definitions, or isn't shown to be

-- the assertion of that number has the clause, and those before it are true under the definitions
pub record IsAssertionReached (script : Script) (definitions : List Definition) (number : ℕ) (clause : HornClause) : Type 0 where
  pub index : ℕ
  pub numbered : number ≡ suc index
  pub is : IsClauseOf script index clause
  pub before : AllByRecursion (IsTrueUnder definitions script) (take index script.asserts)

-- it is false at these integers of its variables, where 1 stands for true and 0 for false: an instance of which all body atoms
-- are true under the definitions and the head isn't
pub record IsFalseAt (script : Script) (definitions : List Definition) (number : ℕ) (integers : List ℤ) : Type 0 where
  pub clause : HornClause
  pub reached : IsAssertionReached script definitions number clause
  pub values : List Given
  pub same : numbers values ≡ integers
  pub breaks : Breaks (interpretation_of definitions) script clause values

-- a term of a definition that starts there has a linear form with a coefficient or constant of 2 ^ 63 or more in magnitude, or a
-- difference of two sides has, at the arguments of the assertion
pub record IsTooWideAt (script : Script) (definitions : List Definition) (offset : ℕ) : Type 0 where
  pub number : ℕ
  pub clause : HornClause
  pub reached : IsAssertionReached script definitions number clause
  pub wide : breaking_wide definitions (normal_clause script clause) ≡ Some offset

-- every number of the instances that make it false has room, their formula has at most 2,048 variables, and it is kept as given up
-- with the given number of inner nodes
pub record IsGivenUpAt (nodes : ℕ) (script : Script) (definitions : List Definition) (number : ℕ) (gave_up : GaveUp) : Type 0 where
  pub clause : HornClause
  pub reached : IsAssertionReached script definitions number clause
  pub narrow : breaking_wide definitions (normal_clause script clause) ≡ None
  pub few : nat_lt most_variables (breaking_variables definitions (normal_clause script clause)) ≡ false
  pub form : given_form gave_up ≡ And (breaking_form definitions (normal_clause script clause) ∷ [])
  pub count : CountsTo nodes (given_evidence gave_up)

-- that formula has more than 2,048 variables
pub record IsTooLargeAt (script : Script) (definitions : List Definition) (number : ℕ) : Type 0 where
  pub clause : HornClause
  pub reached : IsAssertionReached script definitions number clause
  pub narrow : breaking_wide definitions (normal_clause script clause) ≡ None
  pub large : nat_lt most_variables (breaking_variables definitions (normal_clause script clause)) ≡ true

-- verdicts

-- the answer is wrong at that place: definitions at a byte or by an instance, a derivation at a step
abbrev pub IsWrong : Script → Answer → Place → Type 0
IsWrong script (Sat definitions) (Byte offset) = IsTooWideAt script definitions offset
IsWrong script (Sat definitions) (Instance number integers) = IsFalseAt script definitions number integers
IsWrong script (Unsat lines) (Step number) = IsWrongAt script lines number
IsWrong script _ _ = ⊥

-- whether the answer is valid stays open at that place: definitions at an assertion, a derivation at a step
abbrev pub IsNotShown : ℕ → Script → Answer → Hidden → Unshown → Type 0
IsNotShown nodes script (Sat definitions) (Assertion number) (Query gave_up) = IsGivenUpAt nodes script definitions number gave_up
IsNotShown nodes script (Sat definitions) (Assertion number) Variables = IsTooLargeAt script definitions number
IsNotShown nodes script (Unsat lines) (AtStep number) (Value term) = IsWideAt script lines number term.0
IsNotShown nodes script _ _ _ = ⊥

-- what the verdict says of the answer to the script, where forms are given up after the given number of inner nodes
abbrev pub Says : ℕ → Script → Answer → Verdict → Type 0
Says nodes script answer Valid = IsValid script answer
Says nodes script answer (Wrong place) = IsWrong script answer place
Says nodes script answer (NotShown place evidence) = IsNotShown nodes script answer place evidence

-- what the verdict says of a text: that of an answer which it spells and which can be checked, or that it spells none, and where its
-- first fault is
abbrev pub Judges : ℕ → Script → List ℕ → Verdict → Type 0
Judges nodes script text verdict =
    ((answer : Answer) × Spells script.preds text answer × IsCheckable script answer × Says nodes script answer verdict) ⊎ ((offset : ℕ) × IsBad script.preds text offset × (verdict ≡ Wrong (Byte offset)))

-- at the values of each step whose predecessors are right every number has room, as far as they are of the right sorts
abbrev pub HaveRoom : Script → List Line → Type 0
HaveRoom script lines = (number term : ℕ) → IsWideAt script lines number term → ⊥

-- in the instances that make an assertion false under the definitions every number has room
abbrev pub HaveRoomUnder : Script → List Definition → Type 0
HaveRoomUnder script definitions = (index : ℕ) (clause : HornClause) → IsClauseOf script index clause → breaking_wide definitions (normal_clause script clause) ≡ None
