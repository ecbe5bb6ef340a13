use Rattle.std.proofs.Common.{ℕ, ◌<◌, length, get_or}
use Rattle.test_book.proofs.facts.are_there.Given as goal

abbrev pub invariant-loop-id : goal.invariant-loop-id
invariant-loop-id l = (k d : ℕ) → k < l.id-index → get_or l.premises k d < length l.facts
