use Rattle.std.proofs.Common.{ap, sym, ◌∙◌, position}
use Rattle.simplex_core.specs.Run.{is_wide, moment, wide}
use Rattle.simplex_core.proofs.GoodLemmas.{leaves-row}
use Rattle.simplex_core.proofs.TurnLemmas.{turn-conflicts, turn-vertex}
use Rattle.simplex_core.proofs.stepping.step.Goals as goal

pub ratios-requires-clause-fitting : goal.ratios-requires-clause-fitting
unfolding wide
ratios-requires-clause-fitting c =
    ap (position is_wide) c.requires.kept ∙ (turn-vertex (moment c.args.t.now c.args.standings.now) (sym c.turn.ensures ∙ c.in-Vertex.is)).fitting

pub multipliers-requires : goal.multipliers-requires
multipliers-requires c =
    let m = moment c.args.t.now c.args.standings.now in
    record { row = (leaves-row m c.in-Conflict.row c.in-Conflict.side c.table_law.ensures c.requires.legal (turn-conflicts m c.in-Conflict.row c.in-Conflict.side (sym c.turn.ensures ∙ c.in-Conflict.is)).leaves).within }
