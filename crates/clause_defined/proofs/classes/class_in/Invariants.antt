use Rattle.std.proofs.Common.{◌≡◌, ◌<◌, length, drop}
use Rattle.std.specs.List.{AllByRecursion, position_from}
use Rattle.horn_shape.specs.declared.clause.Part.{Part}
use Rattle.clause_defined.specs.machinery.Classes.{is_same_argument}
use Rattle.clause_defined.proofs.classes.class_in.Given as goal

-- it doesn't stand before
abbrev pub invariant-loop-at : goal.invariant-loop-at
invariant-loop-at l = record {
  same : position_from (λ (other : Part). is_same_argument l.terms.nodes other l.part) 0 l.args ≡ position_from (λ (other : Part). is_same_argument l.terms.nodes other l.part) l.at (drop l.at l.args);
  there : AllByRecursion (λ (part : Part). part.term.0 < length l.terms.nodes) (drop l.at l.args);
}
