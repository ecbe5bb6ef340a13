use Rattle.search_strategy.specs.Runs.{CanRun}
use Rattle.test_turns.proofs.led_books.lead_on.Given as goal

abbrev pub invariant-loop : goal.invariant-loop
invariant-loop l = CanRun l.book.system
