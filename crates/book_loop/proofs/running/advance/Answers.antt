use Rattle.std.proofs.Common.{◌≡◌, ◌<◌, length, None, sym, subst}
use Rattle.book_rules.specs.Legal.{end}
use Rattle.chc_core.specs.Contents.{Contents}
use Rattle.chc_core.specs.Views.{standing_of, state_of}
use Rattle.obligation_turn.specs.Turns.{IsThin}
use Rattle.search_strategy.specs.Runs.{CanRun}
use Rattle.search_mind.specs.Minds.{IsMindFor}
use Rattle.book_loop.specs.machinery.Steps.{HasTaken}
use Rattle.book_loop.proofs.FurtherLemmas.{further-then}
use Rattle.book_loop.proofs.running.advance.Goals as goal

pub serve-requires-clause-can_run : goal.serve-requires-clause-can_run
serve-requires-clause-can_run c = subst CanRun (sym c.in_ok-step_on.ensures.further.system) c.requires.can_run

pub serve-requires-clause-goes_on : goal.serve-requires-clause-goes_on
serve-requires-clause-goes_on c =
    let same = subst (HasTaken c.args.book.now c.step_on.new.book) c.if-branch.false c.in_ok-step_on.ensures.taken in
    subst (λ (b : Contents). end (state_of b) ≡ None) (sym same) c.requires.goes_on

pub serve-requires-clause-thin : goal.serve-requires-clause-thin
serve-requires-clause-thin c = c.in_ok-step_on.ensures.further.thin c.requires.thin

pub serve-requires-clause-mind : goal.serve-requires-clause-mind
serve-requires-clause-mind c =
    let same = subst (HasTaken c.args.book.now c.step_on.new.book) c.if-branch.false c.in_ok-step_on.ensures.taken in
    subst (λ (b : Contents). IsMindFor b.system c.step_on.new.mind) (sym same) c.in_ok-step_on.ensures.mind

pub returns-clause-further : goal.returns-clause-further
returns-clause-further c = further-then c.args.nodes c.args.book.now c.step_on.new.book c.serve.new.book c.in_ok-step_on.ensures.further c.serve.ensures.further
