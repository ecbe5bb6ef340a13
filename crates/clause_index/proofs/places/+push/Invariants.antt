use Rattle.std.proofs.Common.{◌≡◌, ◌∷◌, take}
use Rattle.clause_index.specs.machinery.Places.{AddsSome}
use Rattle.clause_index.proofs.places.+push.Given as goal

-- those of the parts so far were put behind
abbrev pub invariant-push_parts-loop-number : goal.invariant-push_parts-loop-number
invariant-push_parts-loop-number l = (l.below ≡ l.fn.below) × AddsSome (l.fn.first ∷ l.fn.second ∷ l.fn.below) l.fn.places l.fn.parts (take l.number l.fn.parts) l.places
