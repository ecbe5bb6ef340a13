use Rattle.std.proofs.Common.{◌≡◌, drop}
use Rattle.cube_forms.specs.Cubes.{cube_is_below}
use Rattle.cube_forms.proofs.cube.are_below.Given as goal

-- the literals to come decide
abbrev pub invariant-loop-lit : goal.invariant-loop-lit
invariant-loop-lit l = cube_is_below l.n (drop l.lit-index l.lits) ≡ cube_is_below l.n l.lits
