use Rattle.cube_rules.proofs.FormLemmas.{fits-And, fits-Or}
use Rattle.cube_rules.proofs.literals.+form_has_room.Goals as goal

pub form_has_room-returns-in-And : goal.form_has_room-returns-in-And
form_has_room-returns-in-And t c = rw (c.in-And.is, fits-And, ← c.as_slice.ensures) c.all_have_room.ensures

pub form_has_room-returns-in-Or : goal.form_has_room-returns-in-Or
form_has_room-returns-in-Or t c = rw (c.in-Or.is, fits-Or, ← c.as_slice-in-Or.ensures) c.all_have_room-in-Or.ensures
