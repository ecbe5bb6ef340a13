use Rattle.std.proofs.Common.{◌≡◌, ℕ, ◌<◌, ◌≤◌, [], length, get_or}
use Rattle.std.specs.List.{Contains}
use Rattle.derivations.proofs.parts.sought.Given as goal

abbrev pub invariant-loop-left : goal.invariant-loop-left
invariant-loop-left l = (l.left ≤ length l.parts) × ((i n : ℕ) → l.left ≤ i → i < length l.parts → Contains (get_or l.parts i []) (l.tuple, n) → ⊥)

abbrev pub decreases-loop-left : goal.decreases-loop-left
decreases-loop-left l = l.left
