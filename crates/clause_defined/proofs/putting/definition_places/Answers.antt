use Rattle.std.proofs.Common.{◌∙◌}
use Rattle.clause_laws.proofs.DefinitionLemmas.{body_there}
use Rattle.clause_defined.proofs.RoomLemmas.{places_found}
use Rattle.clause_defined.proofs.putting.definition_places.Goals as goal

pub places-requires : goal.places-requires
places-requires c = body_there c.args.definition.now c.requires.formula.0 c.requires.formula.1

pub returns : goal.returns
returns c = c.in_ok-ids.ensures ∙ places_found c.args.definition.now c.requires.formula.0 c.requires.formula.1 c.has_number.ensures c.args.tables.now.sorts c.requires.sorts
