use Rattle.std.proofs.Common.{[], take}
use Rattle.clause_index.specs.machinery.Places.{AddsSome}
use Rattle.clause_index.proofs.places.push_conjuncts.Given as goal

-- those of the parts so far were put behind
abbrev pub invariant-loop-number : goal.invariant-loop-number
invariant-loop-number l = AddsSome [] l.fn.places l.fn.parts (take l.number l.fn.parts) l.places
