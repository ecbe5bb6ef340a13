use Rattle.std.proofs.Common.{◌≡◌, map, take}
use Rattle.term_tree.specs.declared.sort.Sort.{Sort}
use Rattle.term_tree.specs.declared.script.Name.{Name}
use Rattle.test_clauses.proofs.definitions.parameters.Given as goal

-- those so far
abbrev pub invariant-loop-i : goal.invariant-loop-i
invariant-loop-i g l = map (λ (p : Name × Sort). p.1) l.params.items ≡ take l.i l.sorts
