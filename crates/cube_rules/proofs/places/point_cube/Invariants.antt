use Rattle.std.proofs.Common.{◌≡◌, ◌++◌, drop}
use Rattle.book_rules.specs.Areas.{point_cube, point_cube_from}
use Rattle.cube_rules.proofs.places.point_cube.Given as goal

-- what came so far and what the rest gives
abbrev pub invariant-loop-place : goal.invariant-loop-place
invariant-loop-place l = l.lits.items ++ point_cube_from l.place (drop l.place l.tuple) ≡ point_cube l.tuple
