use Rattle.clause_index.specs.machinery.Places.{HaveSoFar}
use Rattle.clause_index.proofs.places.all_places.Given as goal

-- the guards of the clauses so far have their places
abbrev pub invariant-loop-clause : goal.invariant-loop-clause
invariant-loop-clause l = HaveSoFar l.fn.clauses l.clause-index l.made
