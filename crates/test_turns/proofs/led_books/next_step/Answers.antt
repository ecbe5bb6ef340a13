use Rattle.std.proofs.Common.{sym, subst}
use Rattle.obligation_tree.specs.Nodes.{TreeState as Tree}
use Rattle.step_rules.specs.Standing.{Standing}
use Rattle.chc_core.specs.Views.{standing_of}
use Rattle.obligation_turn.specs.Turns.{GoesOn, IsOpenLeaf, IsTurn}
use Rattle.test_turns.specs.Led.{IsFree}
use Rattle.test_turns.proofs.LedLemmas.{free-leaf, on-goes, turn-given}
use Rattle.test_turns.proofs.led_books.next_step.Goals as goal

pub turn-requires-clause-goes_on : goal.turn-requires-clause-goes_on
turn-requires-clause-goes_on c = let lent = c.lend-lent.ensures in subst GoesOn (sym lent.is) (on-goes c.args.book.now c.requires.on lent.standing lent.ordered c.facts-facts.ensures.recorded)

pub turn-requires-clause-leaf : goal.turn-requires-clause-leaf
turn-requires-clause-leaf c =
    let job = c.in-Some.job in
    let leaf = free-leaf (standing_of c.args.book.now) job (subst (λ (t : Tree). IsFree t.nodes job) c.tree.ensures.is c.in-Some.ensures) in
    subst (λ (b : Standing). IsOpenLeaf b job) (sym c.lend-lent.ensures.is) leaf

pub improved-requires-clause-given : goal.improved-requires-clause-given
improved-requires-clause-given c =
    turn-given (standing_of c.args.book.now) c.in-Some.job 1000 c.in_ok-step.step (subst (λ (b : Standing). IsTurn b c.in-Some.job 1000 c.in_ok-step.step) c.lend-lent.ensures.is c.in_ok-step.ensures)
