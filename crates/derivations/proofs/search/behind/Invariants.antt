use Rattle.std.proofs.Common.{ℕ, ◌-◌, ◌<◌, ◌≤◌, length, get_or}
use Rattle.derivations.specs.Facts.{tuple_of}
use Rattle.derivations.specs.machinery.Index.{Begins}
use Rattle.derivations.proofs.search.behind.Given as goal

abbrev pub invariant-loop-high : goal.invariant-loop-high
invariant-loop-high l = record {
  after : l.low ≤ l.high;
  within : l.high ≤ length l.row;
  begins : (k d : ℕ) → l.low ≤ k → k < l.high → Begins l.front (tuple_of l.notes (get_or l.row k d));
}

abbrev pub decreases-loop-high : goal.decreases-loop-high
decreases-loop-high l = length l.row - l.high
