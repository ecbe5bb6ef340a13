use Rattle.std.specs.Prelude.{◌≡◌, ◌≤◌, take}
use Rattle.worker_pool.specs.Counts.{entries_of}
use Rattle.worker_pool.proofs.counting.entries_of.Given as goal

-- those of the first entries
abbrev pub invariant-loop-before : goal.invariant-loop-before
invariant-loop-before l = record {
  counted : l.count ≡ entries_of (take l.before l.book.journal) l.worker;
  few : l.count ≤ l.before;
}
