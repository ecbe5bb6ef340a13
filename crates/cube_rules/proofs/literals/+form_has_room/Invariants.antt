use Rattle.std.proofs.Common.{◌≡◌, take, true}
use Rattle.std.specs.List.{list_all}
use Rattle.cube_rules.specs.machinery.Literals.{form_fits}
use Rattle.cube_rules.proofs.literals.+form_has_room.Given as goal

-- as far as it has come
abbrev pub invariant-all_have_room-loop-form : goal.invariant-all_have_room-loop-form
invariant-all_have_room-loop-form l = list_all form_fits (take l.form-index l.forms) ≡ true
