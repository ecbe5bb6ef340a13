use Rattle.std.proofs.Common.{sym, subst}
use Rattle.step_rules.specs.Standing.{Standing}
use Rattle.obligation_turn.specs.Turns.{GoesOn}
use Rattle.lemma_general.specs.Generals.{IsLearnt}
use Rattle.test_turns.proofs.LedLemmas.{on-goes}
use Rattle.test_turns.proofs.led_books.better.Goals as goal

pub generalise-requires-clause-goes_on : goal.generalise-requires-clause-goes_on
generalise-requires-clause-goes_on c = let lent = c.lend-lent.ensures in subst GoesOn (sym lent.is) (on-goes c.args.book.now c.requires.on lent.standing lent.ordered c.facts-facts.ensures.recorded)

pub generalise-requires-clause-learnt : goal.generalise-requires-clause-learnt
generalise-requires-clause-learnt c = subst (λ (b : Standing). IsLearnt b c.args.part) (sym c.lend-lent.ensures.is) c.requires.learnt

pub raise-requires-clause-goes_on : goal.raise-requires-clause-goes_on
raise-requires-clause-goes_on c = let lent = c.lend-lent.ensures in subst GoesOn (sym lent.is) (on-goes c.args.book.now c.requires.on lent.standing lent.ordered c.facts-facts.ensures.recorded)

pub returns : goal.returns
returns c = subst (λ (b : Standing). IsLearnt b c.in_ok-raised.raised) c.lend-lent.ensures.is c.in_ok-raised.ensures.learnt
