use Rattle.std.proofs.Common.{◌≡◌, ◌≤◌, ◌+◌, ℕ, ◌==◌, drop, length}
use Rattle.std.specs.Prelude.{option_map, position}
use Rattle.std.specs.Ordering.{nat_cmp}
use Rattle.std.specs.BTreeMap.{get}
use Rattle.clause_normal.proofs.naming.names_over.Given as goal

-- the places from the number on have their first numbers
abbrev pub invariant-loop-left : goal.invariant-loop-left
invariant-loop-left l = record {
  within : l.left ≤ length l.placed;
  named : (id : ℕ) → get nat_cmp l.auxiliary id ≡ option_map (λ i. l.first + (l.left + i)) (position (λ p. p == id) (drop l.left l.placed));
}

abbrev pub decreases-loop-left : goal.decreases-loop-left
decreases-loop-left l = l.left
