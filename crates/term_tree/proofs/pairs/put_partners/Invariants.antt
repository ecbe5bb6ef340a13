use Rattle.std.proofs.Common.{◌≡◌, ◌&&◌, ◌≤◌, ◌-◌, ℕ, Bool, length, take}
use Rattle.std.specs.List.{list_all}
use Rattle.std.specs.BTreeSet.{keys}
use Rattle.term_tree.specs.Same.{same_parts}
use Rattle.term_tree.proofs.pairs.put_partners.Given as goal

abbrev pub invariant-loop-at : goal.invariant-loop-at
invariant-loop-at l = (l.at ≤ length l.lefts) × (length l.lefts ≡ length l.rights)
    × ((test : ℕ × ℕ → Bool) → list_all test (keys l.pairs) ≡ (list_all test (keys l.fn.pairs) && same_parts (λ i j. test (i, j)) (take l.at l.lefts) (take l.at l.rights)))

abbrev pub decreases-loop-at : goal.decreases-loop-at
decreases-loop-at l = length l.lefts - l.at
