use Rattle.std.proofs.Common.{◌≡◌, map}
use Rattle.std.specs.List.{range_with_len}
use Rattle.book_rules.specs.Areas.{first_place}
use Rattle.cube_rules.proofs.places.first_places.Given as goal

-- as far as it has come
abbrev pub invariant-loop-variable : goal.invariant-loop-variable
invariant-loop-variable l = l.names.items ≡ map (first_place l.args) (range_with_len 0 l.variable)
