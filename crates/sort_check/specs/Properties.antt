-- What the laws say of texts and of the assertions of scripts.
use Rattle.std.specs.Prelude.{ℕ, ◌≤◌, List, [], length, ◌⊎◌}
use Rattle.std.specs.List.{AllByRecursion}
use Rattle.base.specs.Limits.{most_arguments, most_assertions, most_predicates}
use Rattle.term_tree.specs.Legal.{IsLegal}
use Rattle.term_tree.specs.declared.sort.Sort.TheVariants.{Bool as BoolSort}
use Rattle.term_tree.specs.declared.script.Assertion.{Assertion}
use Rattle.term_tree.specs.declared.script.Script.{Script}
use Rattle.term_tree.specs.declared.refusal.Refusal.{Refusal}
use Rattle.sort_check.specs.Commands.{Command}
use Rattle.sort_check.specs.Scripts.{IsScript, IsRefused}

-- a text is a script of some commands, or has a refusal
abbrev pub IsScriptOrRefused : List ℕ → Type 0
IsScriptOrRefused text = ((commands : List Command) × IsScript text commands) ⊎ ((refusal : Refusal) × IsRefused text refusal)

-- the assertion is a legal closed Bool term over the declared predicates
abbrev pub IsLegalAssertion : Script → Assertion → Type 0
IsLegalAssertion script assertion = IsLegal script.preds script.terms.nodes [] BoolSort assertion.term.0

-- no more assertions and predicates, and of each no more arguments, than a script may have
pub record IsWithinLimits (script : Script) : Type 0 where
  pub asserts : length script.asserts ≤ most_assertions
  pub preds : length script.preds ≤ most_predicates
  pub args : AllByRecursion (λ p. length p.args ≤ most_arguments) script.preds
