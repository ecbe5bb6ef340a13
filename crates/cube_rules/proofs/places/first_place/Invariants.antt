use Rattle.std.proofs.Common.{◌≡◌, drop}
use Rattle.book_rules.specs.Areas.{first_place, place_from}
use Rattle.cube_rules.proofs.places.first_place.Given as goal

-- the places to come decide
abbrev pub invariant-loop-place : goal.invariant-loop-place
invariant-loop-place l = place_from l.place (drop l.place l.args) l.variable ≡ first_place l.args l.variable
