use Rattle.std.proofs.Common.{arith}
use Rattle.call_solve.proofs.answer.searched.Goals as goal

pub solve-requires-clause-allowed : goal.solve-requires-clause-allowed
solve-requires-clause-allowed g c =
    let range = c.requires.range in
    let one = range.one in
    let some = range.some in
    λ κs lives. record { some = omega (arith, one); most = range.workers; units = range.units; nodes = omega (arith, some) }
