use Rattle.std.proofs.Common.{◌≡◌}
use Rattle.test_book.proofs.replays.replayed.Given as goal

-- both books are of the same clauses
abbrev pub invariant-loop-before : goal.invariant-loop-before
invariant-loop-before g l = l.again.system ≡ l.book.system
