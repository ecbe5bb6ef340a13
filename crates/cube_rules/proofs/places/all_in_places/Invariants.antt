use Rattle.std.proofs.Common.{◌≡◌, map, take}
use Rattle.book_rules.specs.Areas.{lit_in_places}
use Rattle.cube_rules.proofs.places.all_in_places.Given as goal

-- as far as it has come
abbrev pub invariant-loop-lit : goal.invariant-loop-lit
invariant-loop-lit l = l.lits.items ≡ map (lit_in_places l.args) (take l.lit-index l.cube)
