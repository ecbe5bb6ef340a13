use Rattle.std.proofs.Common.{sym, subst}
use Rattle.step_rules.specs.Standing.{Standing}
use Rattle.chc_core.specs.Views.{standing_of}
use Rattle.obligation_turn.specs.Turns.{GoesOn, IsOpenLeaf}
use Rattle.search_strategy.proofs.JobLemmas.{open_leaf}
use Rattle.book_loop.proofs.StepLemmas.{goes_on}
use Rattle.test_turns.proofs.first_steps.first_step.Goals as goal

pub turn-requires-clause-goes_on : goal.turn-requires-clause-goes_on
turn-requires-clause-goes_on g c =
    let lent = c.lend-lent.ensures in
    subst GoesOn (sym lent.is) (goes_on c.args.book.now c.requires.can_run lent.standing lent.ordered c.facts-facts.ensures.recorded c.goes_on.ensures c.requires.thin)

pub turn-requires-clause-leaf : goal.turn-requires-clause-leaf
turn-requires-clause-leaf g c =
    let root = c.root_may_be_asked.ensures in
    subst (λ (b : Standing). IsOpenLeaf b 0) (sym c.lend-lent.ensures.is) (open_leaf (standing_of c.args.book.now) 0 root.is_leaf root.unmarked)
