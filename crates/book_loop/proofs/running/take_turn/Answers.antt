use Rattle.std.proofs.Common.{◌≡◌, None, sym, subst}
use Rattle.book_rules.specs.Legal.{end}
use Rattle.chc_core.specs.Contents.{Contents}
use Rattle.chc_core.specs.Views.{standing_of, state_of}
use Rattle.search_strategy.specs.machinery.Steps.{IsTaken}
use Rattle.book_loop.specs.machinery.Steps.{HasTaken}
use Rattle.search_strategy.proofs.StepLemmas.{offered}
use Rattle.book_loop.proofs.running.take_turn.Goals as goal

pub lift_older-requires : goal.lift_older-requires
lift_older-requires c = offered _ c.args.nodes c.args.step c.requires.taken

pub take-requires-clause-goes_on : goal.take-requires-clause-goes_on
take-requires-clause-goes_on c =
    let same = subst (HasTaken c.args.book.now c.lift_older.new.book) c.if-branch.false c.in_ok-lift_older.ensures.taken in
    subst (λ (b : Contents). end (state_of b) ≡ None) (sym same) c.requires.goes_on

pub take-requires-clause-taken : goal.take-requires-clause-taken
take-requires-clause-taken c =
    let same = subst (HasTaken c.args.book.now c.lift_older.new.book) c.if-branch.false c.in_ok-lift_older.ensures.taken in
    subst (λ (b : Contents). IsTaken (standing_of b) c.args.nodes c.args.step) (sym same) c.requires.taken
