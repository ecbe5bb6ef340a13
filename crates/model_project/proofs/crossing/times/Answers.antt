use Rattle.std.proofs.Common.{arith}
use Rattle.std.proofs.lemmas.Int.{ints}
use Rattle.model_project.proofs.crossing.times.Goals as goal

pub returns-in-Some-clause-none : goal.returns-in-Some-clause-none
returns-in-Some-clause-none c = λ h.
    let le = c.new.ensures.none.0 h in
    absurd (omega (arith, ints, le, c.in-Some.ensures.some, c.in-Some.ensures.short, c.multiple.ensures.some))
