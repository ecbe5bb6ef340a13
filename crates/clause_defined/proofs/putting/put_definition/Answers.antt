use Rattle.std.proofs.Common.{rules}
use Rattle.term_formulas.specs.Written.{naming_by}
use Rattle.clause_defined.proofs.RoomLemmas.{forms_put, places_named, room_named}
use Rattle.clause_defined.proofs.putting.put_definition.Goals as goal

pub definition_places-requires-clause-formula : goal.definition_places-requires-clause-formula
definition_places-requires-clause-formula c = (c.requires.formula.0, c.requires.formula.2)

pub put_forms-requires-clause-room : goal.put_forms-requires-clause-room
put_forms-requires-clause-room c =
    let tables = c.in_ok-tables.tables in
    room_named c.args.definition.now c.requires.formula.0 c.requires.formula.2 c.has_number.ensures tables.sorts tables.constants c.in_ok-tables.ensures.sorts c.in_ok-tables.ensures.constants
    c.args.args.now c.args.next c.requires.formula.1 c.requires.below c.requires.narrow (naming_by c.in_ok-names.names) (search rules) c.as_slice-placed.result.now (search rules)

pub put_forms-requires-clause-places : goal.put_forms-requires-clause-places
put_forms-requires-clause-places c =
    let tables = c.in_ok-tables.tables in
    places_named c.args.definition.now c.requires.formula.0 c.requires.formula.2 c.has_number.ensures tables.sorts tables.constants c.in_ok-tables.ensures.sorts c.in_ok-tables.ensures.constants
    c.args.args.now c.args.next c.requires.formula.1 c.requires.below c.requires.narrow (naming_by c.in_ok-names.names) (search rules) c.as_slice-placed.result.now (search rules)

pub returns-clause-forms : goal.returns-clause-forms
returns-clause-forms c =
    let tables = c.in_ok-tables.tables in
    forms_put c.args.definition.now c.requires.formula.0 c.requires.formula.2 c.has_number.ensures tables.sorts tables.constants c.in_ok-tables.ensures.sorts c.in_ok-tables.ensures.constants
    c.args.args.now c.args.next c.requires.formula.1 c.requires.below c.requires.narrow (naming_by c.in_ok-names.names) (search rules) c.as_slice-placed.result.now (search rules)
    c.args.sign c.args.out.now c.put_forms.new.out c.in_ok-put_forms.ensures
