use Rattle.std.proofs.Common.{◌≡◌, ◌<◌, length, map, take, drop}
use Rattle.std.specs.Prelude.{slice_get}
use Rattle.std.specs.List.{AllByRecursion}
use Rattle.horn_shape.specs.declared.clause.Part.{Part}
use Rattle.term_formulas.specs.Written.{naming_by}
use Rattle.clause_normal.specs.Normal.{argument_variable}
use Rattle.clause_normal.proofs.arguments.normal_atom.Given as goal

-- the variables so far
abbrev pub invariant-loop-part : goal.invariant-loop-part
invariant-loop-part l = record {
  made : l.args ≡ map (λ (part : Part). argument_variable (naming_by l.names).auxiliary part.term.0 (slice_get l.terms.nodes part.term.0)) (take l.part-index l.atom.args);
  there : AllByRecursion (λ (part : Part). part.term.0 < length l.terms.nodes) (drop l.part-index l.atom.args);
}
