use Rattle.chc_tokens.specs.Tokens.{IsShownToken}
use Rattle.book_rules.specs.Walks.{AllOf}
use Rattle.test_book.proofs.counted.closed.Given as goal

-- all so far were made for the system
abbrev pub invariant-loop-counter : goal.invariant-loop-counter
invariant-loop-counter g l = AllOf (IsShownToken l.sys) l.closed
