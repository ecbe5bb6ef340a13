use Rattle.std.proofs.Common.{◌≡◌, map, take}
use Rattle.test_clauses.proofs.definitions.names_of.Given as goal

-- those so far
abbrev pub invariant-loop-name : goal.invariant-loop-name
invariant-loop-name g l = l.names.items ≡ map (λ p. p.0) (take l.name-index l.params)
