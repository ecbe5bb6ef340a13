use Rattle.std.proofs.Common.{◌≡◌, drop}
use Rattle.clause_index.specs.machinery.Places.{at}
use Rattle.clause_index.proofs.places.at.Given as goal

-- the rest of the path leads on from here
abbrev pub invariant-loop-number : goal.invariant-loop-number
invariant-loop-number l = at l.part (drop l.number-index l.path) ≡ at l.form l.path
