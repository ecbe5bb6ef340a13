use Rattle.std.proofs.Common.{◌+◌, ◌-◌, length}
use Rattle.search_mind.specs.Minds.{IsMindFor}
use Rattle.book_loop.specs.machinery.Steps.{IsFurther}
use Rattle.book_loop.proofs.running.search.Given as goal

-- the steps so far
abbrev pub invariant-turns : goal.invariant-turns
invariant-turns l = record {
  further : IsFurther l.nodes l.initial.book l.book;
  mind : IsMindFor (l.initial.book).system l.mind;
}

-- the entries for which there is room
abbrev pub decreases-turns : goal.decreases-turns
decreases-turns l = l.book.given + l.book.given + 2 - length l.book.journal
