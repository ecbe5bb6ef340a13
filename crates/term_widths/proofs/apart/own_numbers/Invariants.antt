use Rattle.std.proofs.Common.{◌≡◌, ℕ, ◌==◌, take}
use Rattle.std.specs.Prelude.{option_map, position}
use Rattle.std.specs.Ordering.{nat_cmp}
use Rattle.std.specs.BTreeMap.{get}
use Rattle.term_widths.proofs.apart.own_numbers.Given as goal

-- the numbers of the terms so far
abbrev pub invariant-loop-id : goal.invariant-loop-id
invariant-loop-id l = (q : ℕ) → get nat_cmp l.numbers q ≡ option_map (λ i. q) (position (λ p. p == q) (take l.id-index l.placed))
