use Rattle.std.proofs.Common.{◌≡◌, ◌++◌, map, length, reverse}
use Rattle.std.specs.Prelude.{Some}
use Rattle.answer_text.specs.machinery.Places.{gathered}
use Rattle.answer_text.proofs.definitions.gathered.Given as goal

abbrev pub invariant-loop-definition : goal.invariant-loop-definition
invariant-loop-definition l = gathered (l.places.items ++ map Some (reverse l.definitions.items)) ≡ gathered l.fn.places.items

abbrev pub decreases-loop-definition : goal.decreases-loop-definition
decreases-loop-definition l = length l.places.items
