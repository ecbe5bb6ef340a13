use Rattle.std.proofs.Common.{◌≡◌, ◌+◌, false, replicate, rules}
use Rattle.derivations.proofs.MarkLemmas.{one_long, one_marked}
use Rattle.derivations.proofs.marks.first.Goals as goal

pub returns-clause-long : goal.returns-clause-long
returns-clause-long c =
    let none : c.in_ok-marks.marks.items ≡ replicate (c.args.id + 1) false = search rules in
    rw none (one_long c.args.id)

pub returns-clause-marked : goal.returns-clause-marked
returns-clause-marked c =
    let none : c.in_ok-marks.marks.items ≡ replicate (c.args.id + 1) false = search rules in
    rw none (one_marked c.args.id)
