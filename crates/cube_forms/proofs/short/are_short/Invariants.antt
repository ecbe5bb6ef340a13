use Rattle.std.proofs.Common.{◌≡◌, drop}
use Rattle.cube_forms.specs.Cubes.{cube_is_short}
use Rattle.cube_forms.proofs.short.are_short.Given as goal

-- the literals to come decide
abbrev pub invariant-loop-lit : goal.invariant-loop-lit
invariant-loop-lit l = cube_is_short (drop l.lit-index l.lits) ≡ cube_is_short l.lits
