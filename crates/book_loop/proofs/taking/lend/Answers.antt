use Rattle.std.proofs.Common.{sym, subst}
use Rattle.obligation_turn.specs.Turns.{GoesOn}
use Rattle.book_loop.proofs.StepLemmas.{goes_on}
use Rattle.book_loop.proofs.taking.lend.Goals as goal

pub returns-clause-goes_on : goal.returns-clause-goes_on
returns-clause-goes_on c =
    let lent = c.lend.ensures in
    subst GoesOn (sym lent.is) (goes_on c.args.book.now c.requires.can_run lent.standing lent.ordered c.facts-facts.ensures.recorded c.requires.goes_on c.requires.thin)
