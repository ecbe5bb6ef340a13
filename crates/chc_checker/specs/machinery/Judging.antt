-- One assertion under definitions, as the code judges it.
use Rattle.std.specs.Prelude.{◌≡◌, ◌<◌, ◌^◌, ℕ, suc, List, Option, Some, None, true, length, slice_get}
use Rattle.term_tree.specs.declared.definition.Definition.{Definition}
use Rattle.term_tree.specs.declared.script.Assertion.{Assertion}
use Rattle.term_tree.specs.declared.script.Script.{Script}
use Rattle.term_tree.specs.Solution.{IsTrueUnder}
use Rattle.lin_atoms.specs.Truth.{truth}
use Rattle.lin_atoms.specs.declared.form.Form.{Form}
use Rattle.refutation_trees.specs.KeptEvidence.{given_evidence, given_form}
use Rattle.refutation_trees.specs.Refutation.{HasNoPoint}
use Rattle.lia_search.specs.Decides.{CountsTo}
use Rattle.lia_search.specs.declared.decision.Decision.{Decision}
use Rattle.lia_search.specs.declared.decision.Decision.TheVariants.{Model, Refuted, GaveUp}
use Rattle.clause_normal.specs.machinery.Making.{HasFewArguments}
use Rattle.answer_text.specs.declared.answer.Answer.TheVariants.{Sat}
use Rattle.chc_checker.specs.declared.verdict.Verdict.{Verdict}
use Rattle.chc_checker.specs.Verdicts.{Says}

-- the assertion of that number, from 1, is true, where there is no verdict at it
abbrev pub IsDecided : ℕ → Script → List Definition → ℕ → Option Verdict → Type 0
IsDecided nodes script definitions number None =
    (index : ℕ) (assertion : Assertion) → number ≡ suc index → slice_get script.asserts index ≡ Some assertion → IsTrueUnder definitions script assertion
IsDecided nodes script definitions number (Some verdict) = Says nodes script (Sat definitions) verdict

-- what is decided of a formula: a point of `vars` integers at which it is true, that it has none, or that it is kept as given up
abbrev pub Settles : Form → ℕ → ℕ → Decision → Type 0
Settles form vars nodes (Model point) = (length point.items ≡ vars) × (truth point.items form ≡ true)
Settles form vars nodes (Refuted refuted) = HasNoPoint form
Settles form vars nodes (GaveUp gave_up) = (given_form gave_up ≡ form) × CountsTo nodes (given_evidence gave_up)

-- no operation has more arguments than a list can hold
pub record HaveFewArguments (script : Script) (definitions : List Definition) : Type 0 where
  pub asserted : HasFewArguments script.terms.nodes
  pub defined : (i : ℕ) (d : Definition) → slice_get definitions i ≡ Some d → HasFewArguments d.terms.nodes × (d.body.0 < 2 ^ 32)
