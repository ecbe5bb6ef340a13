use Rattle.std.proofs.Common.{ℕ, ◌-◌, ◌<◌, ◌≤◌, length, get_or}
use Rattle.lemma_frames.specs.Frames.{level_of}
use Rattle.lemma_frames.specs.machinery.Rows.{IsBefore, IsBehind}
use Rattle.lemma_frames.proofs.rank.rank.Given as goal

abbrev pub invariant-loop-low : goal.invariant-loop-low
invariant-loop-low l = (l.low ≤ l.high) × (l.high ≤ length l.row)
    × ((k d : ℕ) → k < l.low → IsBefore (level_of l.lemmas) l.level l.number (get_or l.row k d))
    × ((k d : ℕ) → l.high ≤ k → k < length l.row → IsBehind (level_of l.lemmas) l.level l.number (get_or l.row k d))

abbrev pub decreases-loop-low : goal.decreases-loop-low
decreases-loop-low l = l.high - l.low
