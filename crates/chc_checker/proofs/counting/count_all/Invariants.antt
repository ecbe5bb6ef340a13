use Rattle.std.proofs.Common.{◌≡◌, ◌<◌, ◌^◌, ℕ}
use Rattle.std.specs.Prelude.{slice_get, Some}
use Rattle.term_tree.specs.declared.definition.Definition.{Definition}
use Rattle.clause_normal.specs.machinery.Making.{HasFewArguments}
use Rattle.chc_checker.proofs.counting.count_all.Given as goal

-- the same of those so far
abbrev pub invariant-loop-definition : goal.invariant-loop-definition
invariant-loop-definition l = (i : ℕ) (d : Definition) → i < l.definition-index → slice_get l.definitions i ≡ Some d → HasFewArguments d.terms.nodes × (d.body.0 < 2 ^ 32)
