use Rattle.std.proofs.Common.{◌≡◌, ◌≤◌, drop}
use Rattle.book_rules.specs.RaiseRules.{below_from, first_pair, evidence_outside, rule_44}
use Rattle.step_rules.specs.Taken.{raise_of}
use Rattle.step_rules.specs.Tokens.{all_no_lifts}
use Rattle.cube_rules.specs.Views.{lemmas_of}
use Rattle.step_rules.specs.Standing.{standing_state}
use Rattle.step_rules.proofs.raise_step.rules.raise_rule_44_evidence_uses_frame.Given as goal

-- the lemmas and the reasons to come decide
abbrev pub invariant-loop-id : goal.invariant-loop-id
invariant-loop-id l = (first_pair (evidence_outside l.parts.system (standing_state l.parts)) (below_from l.parts.level l.id (drop l.id (lemmas_of l.parts.frames.lemmas))) (all_no_lifts (drop l.place l.kept)) ≡ rule_44 l.parts.system (standing_state l.parts) (raise_of l.step)) × (l.place ≤ l.id)
