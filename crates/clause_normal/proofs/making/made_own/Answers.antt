use Rattle.std.proofs.Common.{◌∙◌}
use Rattle.term_formulas.specs.Written.{naming_by}
use Rattle.clause_normal.proofs.GivenLemmas.{clause_here, room_here}
use Rattle.clause_normal.proofs.making.made_own.Goals as goal

pub made-requires-clause-room : goal.made-requires-clause-room
made-requires-clause-room c =
    room_here c.args.script.now c.args.tables.now c.args.clause.now c.requires.given c.arena_law.ensures.arena c.args.top.0 c.requires.top c.has_number.ensures (naming_by c.args.names.now) c.args.placed.now
    c.requires.names c.requires.placed c.requires.narrow c.requires.few

pub returns : goal.returns
returns c =
    c.in_ok-made.ensures
    ∙ clause_here c.args.script.now c.args.tables.now c.args.clause.now c.requires.given c.arena_law.ensures.arena c.args.top.0 c.requires.top c.has_number.ensures (naming_by c.args.names.now) c.args.placed.now
    c.requires.names c.requires.placed c.requires.narrow
