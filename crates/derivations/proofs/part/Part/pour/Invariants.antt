use Rattle.std.proofs.Common.{◌≡◌, ◌-◌, ◌≤◌, length, take}
use Rattle.std.specs.Ordering.{int_eq}
use Rattle.std.specs.Cmp.Lexicographic.{pointwise}
use Rattle.indexmap.specs.IndexMap.{insert_all}
use Rattle.derivations.proofs.part.Part.pour.Given as goal

abbrev pub invariant-loop-at : goal.invariant-loop-at
invariant-loop-at l = (l.at ≤ length l.other) × (l.self ≡ insert_all (pointwise int_eq) l.fn.self (take l.at l.other))

abbrev pub decreases-loop-at : goal.decreases-loop-at
decreases-loop-at l = length l.other - l.at
