use Rattle.std.proofs.Common.{◌≡◌, drop}
use Rattle.std.specs.List.{list_all}
use Rattle.term_tree.specs.Value.{environment_of}
use Rattle.horn_shape.specs.Instance.{is_met}
use Rattle.check_derivation.proofs.parts.are_met.Given as goal

-- those to come decide
abbrev pub invariant-loop-guard : goal.invariant-loop-guard
invariant-loop-guard l = list_all (is_met l.terms.nodes (environment_of l.values)) (drop l.guard-index l.guards) ≡ list_all (is_met l.terms.nodes (environment_of l.values)) l.guards
