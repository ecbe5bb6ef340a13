use Rattle.std.proofs.Common.{◌≡◌, drop}
use Rattle.book_rules.specs.Same.{same_cube}
use Rattle.cube_rules.proofs.literals.same_cube.Given as goal

-- the rests decide; the loop is named for its index
abbrev pub invariant-loop-i : goal.invariant-loop-i
invariant-loop-i l = same_cube (drop l.i l.lits) (drop l.i l.others) ≡ same_cube l.lits l.others
