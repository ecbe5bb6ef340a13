use Rattle.chc_tokens.specs.Tokens.{IsNoLift}
use Rattle.book_rules.specs.Walks.{AllOf}
use Rattle.test_book.proofs.counted.kept.Given as goal

-- all so far were made for the system
abbrev pub invariant-loop-number : goal.invariant-loop-number
invariant-loop-number g l = AllOf (IsNoLift l.sys) l.kept
