use Rattle.std.proofs.Common.{◌<◌, arith}
use Rattle.int_rows.specs.Table.{width}
use Rattle.simplex_core.specs.Run.{moment}
use Rattle.simplex_core.proofs.TurnLemmas.{turn-wides, wides-within}
use Rattle.simplex_core.proofs.stepping.wide_point.Goals as goal

pub overflow_cast-variable : goal.overflow_cast-variable
overflow_cast-variable c =
    let m = moment c.args.t.now c.args.standings.now in
    let within : c.args.column < width c.args.t.now = wides-within m c.args.column (turn-wides m c.args.column c.requires.turn) in
    omega (arith, within, c.requires.legal.few)
