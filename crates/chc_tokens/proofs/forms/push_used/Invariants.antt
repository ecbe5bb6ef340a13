use Rattle.std.proofs.Common.{◌≡◌, drop, take, map, ◌++◌}
use Rattle.chc_tokens.specs.Queries.{used_form, used_have_room}
use Rattle.chc_tokens.proofs.forms.push_used.Given as goal

-- the forms so far are added, and the lemmas to come decide on the room
abbrev pub invariant-loop-one : goal.invariant-loop-one
invariant-loop-one l = record {
  made : l.parts.items ≡ l.fn.parts.items ++ map (used_form l.atoms) (take l.one-index l.used);
  room : used_have_room l.atoms (drop l.one-index l.used) ≡ used_have_room l.atoms l.used;
}
