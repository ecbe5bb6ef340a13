use Rattle.std.proofs.Common.{◌≡◌, take, true}
use Rattle.std.specs.List.{list_all}
use Rattle.lin_atoms.specs.Denial.{lit_fits}
use Rattle.cube_rules.proofs.literals.have_room.Given as goal

-- as far as it has come
abbrev pub invariant-loop-lit : goal.invariant-loop-lit
invariant-loop-lit l = list_all lit_fits (take l.lit-index l.lits) ≡ true
