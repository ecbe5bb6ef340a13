use Rattle.std.proofs.Common.{◌≡◌, drop, take}
use Rattle.cube_forms.specs.Cubes.{cube_at, has_room}
use Rattle.cube_forms.proofs.placed.lits_at.Given as goal

-- the literals so far are made, and those to come decide on the room
abbrev pub invariant-loop-lit : goal.invariant-loop-lit
invariant-loop-lit l = record {
  made : l.made.items ≡ cube_at l.args (take l.lit-index l.lits);
  room : has_room l.args (drop l.lit-index l.lits) ≡ has_room l.args l.lits;
}
