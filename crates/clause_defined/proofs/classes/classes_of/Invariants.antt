use Rattle.std.proofs.Common.{◌≡◌, ◌<◌, length, map, take, drop}
use Rattle.std.specs.List.{AllByRecursion}
use Rattle.horn_shape.specs.declared.clause.Part.{Part}
use Rattle.clause_defined.specs.machinery.Classes.{class_in}
use Rattle.clause_defined.proofs.classes.classes_of.Given as goal

-- those so far
abbrev pub invariant-loop-part : goal.invariant-loop-part
invariant-loop-part l = record {
  made : l.classes.items ≡ map (class_in l.terms.nodes l.args) (take l.part-index l.args);
  there : AllByRecursion (λ (part : Part). part.term.0 < length l.terms.nodes) (drop l.part-index l.args);
}
