use Rattle.std.proofs.Common.{subst}
use Rattle.chc_core.specs.Views.{standing_of}
use Rattle.test_turns.specs.Led.{IsGiven}
use Rattle.test_turns.proofs.led_books.improved.Goals as goal

pub better-requires-clause-learnt : goal.better-requires-clause-learnt
better-requires-clause-learnt c =
    let given = subst (IsGiven (standing_of c.args.book.now)) c.in-LemmaStep.is c.requires.given in
    record { unbroken = given.unbroken; made = given.made; places = given.places; thin = given.thin }

pub returns-in_ok-learnt-in-LemmaStep : goal.returns-in_ok-learnt-in-LemmaStep
returns-in_ok-learnt-in-LemmaStep c =
    let learnt = c.in_ok-learnt-in-LemmaStep.ensures in
    record { unbroken = learnt.unbroken; made = learnt.made; places = learnt.places; thin = learnt.thin }
