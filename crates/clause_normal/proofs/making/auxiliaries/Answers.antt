use Rattle.std.proofs.Common.{◌∙◌}
use Rattle.clause_normal.proofs.GivenLemmas.{places_here, within_here}
use Rattle.clause_normal.proofs.making.auxiliaries.Goals as goal

pub places-requires : goal.places-requires
places-requires c = within_here c.args.script.now c.args.tables.now c.args.clause.now c.requires.given c.arena_law.ensures.arena c.args.top.0 c.requires.top

pub returns : goal.returns
returns c =
    c.in_ok-ids.ensures ∙ places_here c.args.script.now c.args.tables.now c.args.clause.now c.requires.given c.arena_law.ensures.arena c.args.top.0 c.requires.top c.has_number.ensures
