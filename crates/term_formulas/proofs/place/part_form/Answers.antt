use Rattle.std.proofs.Common.{sym, subst}
use Rattle.lin_atoms.specs.Linear.{Linear}
use Rattle.term_tables.specs.machinery.Table.{constant_in}
use Rattle.term_formulas.specs.Written.{naming_by}
use Rattle.term_formulas.specs.machinery.Parts.{IsApart}
use Rattle.term_formulas.proofs.ApartLemmas.{made_apart}
use Rattle.term_formulas.proofs.RoomLemmas.{made_room, narrow_here}
use Rattle.term_formulas.proofs.place.part_form.Goals as goal

pub narrow_form-requires-clause-there : goal.narrow_form-requires-clause-there
narrow_form-requires-clause-there c = (made_room (constant_in c.args.constants.now) (naming_by c.args.names.now) c.args.terms.now.nodes c.args.id.0 c.args.part.0 c.arena_law.ensures.arena c.requires.room c.requires.part).there

pub narrow_form-requires-clause-narrow : goal.narrow_form-requires-clause-narrow
narrow_form-requires-clause-narrow c = narrow_here (constant_in c.args.constants.now) (naming_by c.args.names.now) c.args.terms.now.nodes c.args.part.0 (made_room (constant_in c.args.constants.now) (naming_by c.args.names.now) c.args.terms.now.nodes c.args.id.0 c.args.part.0 c.arena_law.ensures.arena c.requires.room c.requires.part)

pub returns-clause-apart : goal.returns-clause-apart
returns-clause-apart c =
    subst (λ (form : Linear). IsApart c.args.v form) (sym c.in_ok-form.ensures.is)
    (made_apart (constant_in c.args.constants.now) (naming_by c.args.names.now) c.args.terms.now.nodes c.args.v c.args.id.0 c.args.part.0 c.arena_law.ensures.arena c.requires.room c.requires.fresh c.requires.part)
