use Rattle.std.proofs.Common.{◌≡◌, subst}
use Rattle.std.specs.Prelude.{Option, IfSome}
use Rattle.lin_atoms.specs.Linear.{Linear}
use Rattle.linear_terms.specs.Linear.{less, variable_form}
use Rattle.term_tables.specs.machinery.Table.{constant_in}
use Rattle.term_forms.specs.Found.{form_by}
use Rattle.term_formulas.specs.Written.{naming_by}
use Rattle.term_formulas.proofs.RoomLemmas.{made_room}
use Rattle.term_formulas.proofs.place.part_less.Goals as goal

pub less_leaf-requires : goal.less_leaf-requires
less_leaf-requires c = (made_room (constant_in c.args.constants.now) (naming_by c.args.names.now) c.args.terms.now.nodes c.args.id.0 c.args.part.0 c.arena_law.ensures.arena c.requires.room c.requires.part).there

pub returns-in-Some-clause-is : goal.returns-in-Some-clause-is
returns-in-Some-clause-is c =
    subst (λ (found : Option Linear). IfSome found (λ d. d ≡ less (variable_form c.args.v) (form_by (constant_in c.args.constants.now) (naming_by c.args.names.now) c.args.terms.now.nodes c.args.part.0)))
    c.in-Some.is (c.in_ok-d.ensures.is (constant_in c.args.constants.now))
