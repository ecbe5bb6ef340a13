use Rattle.std.proofs.Common.{◌≡◌, ℕ, ◌<◌, get_or, None}
use Rattle.shared_book.specs.Locks.{with_claims}
use Rattle.shared_book.proofs.taking.release_all.Given as goal

-- the first workers hold none, and nothing but claims has changed
abbrev pub invariant-loop-worker : goal.invariant-loop-worker
invariant-loop-worker l = record {
  is : l.book ≡ with_claims l.book.tree.claims l.initial.book;
  free : (i : ℕ) → i < l.worker → get_or l.book.tree.claims i None ≡ None;
}
