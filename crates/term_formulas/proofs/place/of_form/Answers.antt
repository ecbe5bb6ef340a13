use Rattle.term_tables.specs.machinery.Table.{constant_in}
use Rattle.term_formulas.specs.Written.{naming_by}
use Rattle.term_formulas.proofs.ApartLemmas.{own_apart}
use Rattle.term_formulas.proofs.RoomLemmas.{narrow_here}
use Rattle.std.proofs.Common.{sym, subst}
use Rattle.lin_atoms.specs.Linear.{Linear}
use Rattle.term_formulas.specs.machinery.Parts.{IsApart}
use Rattle.term_formulas.proofs.place.of_form.Goals as goal

pub narrow_form-requires-clause-narrow : goal.narrow_form-requires-clause-narrow
narrow_form-requires-clause-narrow c = narrow_here (constant_in c.args.constants.now) (naming_by c.args.names.now) c.args.terms.now.nodes c.args.id.0 c.requires.room

pub variable_less-requires : goal.variable_less-requires
variable_less-requires c =
    subst (λ (form : Linear). IsApart c.args.v form) (sym c.in_ok-lin.ensures.is) (own_apart (constant_in c.args.constants.now) (naming_by c.args.names.now) c.args.terms.now.nodes c.args.v c.args.id.0 c.arena_law.ensures.arena c.requires.room c.requires.fresh c.requires.sum)
