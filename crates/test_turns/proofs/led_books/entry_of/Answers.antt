use Rattle.std.proofs.Common.{sym, subst}
use Rattle.step_rules.specs.Standing.{Standing}
use Rattle.step_rules.specs.declared.step.Step.TheVariants.{StrengthenStep}
use Rattle.obligation_turn.specs.Turns.{GoesOn}
use Rattle.lemma_general.specs.Generals.{IsStrengthenFound}
use Rattle.test_turns.specs.Led.{IsGiven}
use Rattle.test_turns.proofs.LedLemmas.{on-goes}
use Rattle.test_turns.proofs.led_books.entry_of.Goals as goal

pub strengthen-requires-clause-goes_on : goal.strengthen-requires-clause-goes_on
strengthen-requires-clause-goes_on c = let lent = c.lend-lent.ensures in subst GoesOn (sym lent.is) (on-goes c.args.book.now c.requires lent.standing lent.ordered c.facts-facts.ensures.recorded)

pub returns-in-Some : goal.returns-in-Some
returns-in-Some c =
    let part = c.in-Some.part in
    let found = subst (IsStrengthenFound c.lend-lent.result 1000 c.args.pred c.args.level c.args.lemma.now) c.in-Some.is c.in_ok-part.ensures in
    subst (λ (b : Standing). IsGiven b (StrengthenStep part)) c.lend-lent.ensures.is (record { unbroken = found.unbroken; made = found.made; places = found.places; thin = found.thin })
