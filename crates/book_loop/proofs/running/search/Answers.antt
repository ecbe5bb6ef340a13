use Rattle.std.proofs.Common.{sym, subst, arith}
use Rattle.clause_form.specs.System.{Clauses}
use Rattle.search_strategy.specs.Runs.{CanRun}
use Rattle.search_mind.specs.Minds.{IsMindFor}
use Rattle.book_loop.proofs.FurtherLemmas.{further-none, further-then}
use Rattle.book_loop.proofs.StepLemmas.{room}
use Rattle.book_loop.proofs.running.search.Goals as goal

pub turns-init : goal.turns-init
turns-init c = record { further = further-none c.args.nodes c.args.book.now; mind = c.new-mind.ensures (c.args.book.now).system }

pub advance-requires-clause-can_run : goal.advance-requires-clause-can_run
advance-requires-clause-can_run c = subst CanRun (sym c.turns.invariant.further.system) c.requires.can_run

pub advance-requires-clause-thin : goal.advance-requires-clause-thin
advance-requires-clause-thin c = c.turns.invariant.further.thin c.requires.thin

pub advance-requires-clause-mind : goal.advance-requires-clause-mind
advance-requires-clause-mind c = subst (λ (sys : Clauses). IsMindFor sys c.turns.mind) (sym c.turns.invariant.further.system) c.turns.invariant.mind

pub turns-preserved : goal.turns-preserved
turns-preserved c = record {
  further = further-then c.args.nodes c.args.book.now c.turns.book c.advance.new.book c.turns.invariant.further c.in_ok-advance.ensures.further;
  mind = subst (λ (sys : Clauses). IsMindFor sys c.advance.new.mind) c.turns.invariant.further.system c.in_ok-advance.ensures.mind;
}

pub turns-smaller : goal.turns-smaller
turns-smaller c =
    let done = c.in_ok-advance.ensures in
    let grown = done.grown in
    let given = done.further.given in
    let full = room c.advance.new.book c.replay_law.ensures.replayed c.replay_law.ensures.legal in
    omega (arith, grown, given, full)
