-- How far queries were searched: evidence that counts the inner nodes of a search counts those that were allowed.
use Rattle.std.specs.Prelude.{ℕ}
use Rattle.refutation_trees.specs.KeptEvidence.{given_evidence}
use Rattle.lia_search.specs.Decides.{CountsTo}
use Rattle.chc_tokens.specs.Kept.{kept_why}
use Rattle.chc_tokens.specs.declared.why.Why.{Why}
use Rattle.chc_tokens.specs.declared.why.Why.TheVariants.{Broken, Unknown}
use Rattle.book_rules.specs.Walks.{AllOf}
use Rattle.step_rules.specs.declared.step.Step.{Step}
use Rattle.step_rules.specs.declared.step.Step.TheVariants.{OpenStep, LemmaStep, FactStep, LiftStep, RaiseStep, StallStep, DeriveStep, StrengthenStep}

-- what keeps a lemma from being lifted: an instance, or a query that was given up
abbrev pub WhyCounts : ℕ → Why → Type 0
WhyCounts nodes (Broken seen) = Unit {0}
WhyCounts nodes (Unknown clause used evidence) = CountsTo nodes (given_evidence evidence)

-- in a Stall, and in what a Raise brings for each lemma that it keeps; no other step has evidence
abbrev pub StepCounts : ℕ → Step → Type 0
StepCounts nodes (OpenStep o) = Unit {0}
StepCounts nodes (LemmaStep l) = Unit {0}
StepCounts nodes (FactStep f) = Unit {0}
StepCounts nodes (LiftStep l) = Unit {0}
StepCounts nodes (RaiseStep r) = AllOf (λ k. WhyCounts nodes (kept_why k)) r.kept
StepCounts nodes (StallStep t) = CountsTo nodes (given_evidence t.evidence)
StepCounts nodes (DeriveStep f) = Unit {0}
StepCounts nodes (StrengthenStep l) = Unit {0}
