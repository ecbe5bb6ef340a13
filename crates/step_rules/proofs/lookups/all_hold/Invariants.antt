use Rattle.std.proofs.Common.{◌≡◌, drop}
use Rattle.cube_forms.specs.Cubes.{cube_holds}
use Rattle.step_rules.proofs.lookups.all_hold.Given as goal

-- the rest decides
abbrev pub invariant-loop-lit : goal.invariant-loop-lit
invariant-loop-lit l = cube_holds l.tuple (drop l.lit-index l.lits) ≡ cube_holds l.tuple l.lits
