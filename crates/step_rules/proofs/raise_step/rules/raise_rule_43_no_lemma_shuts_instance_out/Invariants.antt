use Rattle.std.proofs.Common.{◌≡◌, ◌≤◌, drop}
use Rattle.book_rules.specs.RaiseRules.{below_from, first_pair, seen_outside, rule_43}
use Rattle.step_rules.specs.Taken.{raise_of}
use Rattle.step_rules.specs.Tokens.{all_no_lifts}
use Rattle.cube_rules.specs.Views.{lemmas_of}
use Rattle.step_rules.specs.Standing.{standing_state}
use Rattle.step_rules.proofs.raise_step.rules.raise_rule_43_no_lemma_shuts_instance_out.Given as goal

-- the lemmas and the reasons to come decide
abbrev pub invariant-loop-id : goal.invariant-loop-id
invariant-loop-id l = (first_pair (seen_outside l.parts.system (standing_state l.parts)) (below_from l.parts.level l.id (drop l.id (lemmas_of l.parts.frames.lemmas))) (all_no_lifts (drop l.place l.kept)) ≡ rule_43 l.parts.system (standing_state l.parts) (raise_of l.step)) × (l.place ≤ l.id)
