use Rattle.std.proofs.Common.{◌≡◌, drop, take, map, ◌++◌}
use Rattle.lin_atoms.specs.declared.form.Form.TheVariants.{Lit as Literal}
use Rattle.cube_forms.specs.Cubes.{cube_at, has_room}
use Rattle.chc_tokens.proofs.forms.push_all.Given as goal

-- the literals so far are added, and those to come decide on the room
abbrev pub invariant-loop-lit : goal.invariant-loop-lit
invariant-loop-lit l = record {
  made : l.parts.items ≡ l.fn.parts.items ++ map Literal (cube_at l.args (take l.lit-index l.lits));
  room : has_room l.args (drop l.lit-index l.lits) ≡ has_room l.args l.lits;
}
