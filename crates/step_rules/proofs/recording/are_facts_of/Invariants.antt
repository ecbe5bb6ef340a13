use Rattle.std.proofs.Common.{◌≡◌, drop}
use Rattle.book_rules.specs.FactRules.{are_facts_of}
use Rattle.step_rules.specs.Views.{facts_of}
use Rattle.step_rules.proofs.recording.are_facts_of.Given as goal

-- the rests decide; the loop is named for its index
abbrev pub invariant-loop-i : goal.invariant-loop-i
invariant-loop-i l = are_facts_of (facts_of l.facts) (drop l.i l.premises) (drop l.i l.body) ≡ are_facts_of (facts_of l.facts) l.premises l.body
