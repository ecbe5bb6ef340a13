use Rattle.std.proofs.Common.{◌≡◌, ℕ, ◌-◌, ◌<◌, ◌≤◌, length, get_or}
use Rattle.std.specs.Prelude.{◌≢◌}
use Rattle.std.specs.Ordering.{int_cmp}
use Rattle.std.specs.Cmp.Lexicographic.{slice_cmp}
use Rattle.std.specs.declared.cmp.Ordering.TheVariants.{Less}
use Rattle.derivations.specs.Facts.{tuple_of}
use Rattle.derivations.proofs.search.rank.Given as goal

abbrev pub invariant-loop-low : goal.invariant-loop-low
invariant-loop-low l = (l.low ≤ l.high) × (l.high ≤ length l.row)
    × ((k d : ℕ) → k < l.low → slice_cmp int_cmp (tuple_of l.notes (get_or l.row k d)) l.tuple ≡ Less)
    × ((k d : ℕ) → l.high ≤ k → k < length l.row → slice_cmp int_cmp (tuple_of l.notes (get_or l.row k d)) l.tuple ≢ Less)

abbrev pub decreases-loop-low : goal.decreases-loop-low
decreases-loop-low l = l.high - l.low
