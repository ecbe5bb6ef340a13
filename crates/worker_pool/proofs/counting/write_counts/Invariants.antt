use Rattle.std.specs.Prelude.{◌≡◌, length, take}
use Rattle.worker_pool.specs.Counts.{counts_of}
use Rattle.worker_pool.proofs.counting.write_counts.Given as goal

-- the counts of the first workers
abbrev pub invariant-loop-before : goal.invariant-loop-before
invariant-loop-before l = record {
  long : length l.counts ≡ l.workers;
  written : take l.before l.counts ≡ take l.before (counts_of l.workers l.book.journal);
}
