use Rattle.std.proofs.Common.{◌≡◌, take}
use Rattle.clause_gen.specs.Generated.{ids}
use Rattle.clause_gen.proofs.piece.terms.Given as goal

abbrev pub invariant-loop-number : goal.invariant-loop-number
invariant-loop-number l = l.terms ≡ ids (take l.number-index l.numbers)
