use Rattle.std.proofs.Common.{◌≡◌, map, take, true}
use Rattle.book_rules.specs.FactRules.{are_facts_of}
use Rattle.book_rules.specs.Instances.{atom_at}
use Rattle.step_rules.specs.Views.{facts_of}
use Rattle.obligation_turn.proofs.premises.premises_at.Given as goal

-- as far as it has come
abbrev pub invariant-loop-number : goal.invariant-loop-number
invariant-loop-number l = are_facts_of (facts_of l.facts) l.premises (map (atom_at l.point) (take l.number l.atoms)) ≡ true
