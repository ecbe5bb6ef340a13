use Rattle.std.proofs.Common.{◌≡◌, take, true}
use Rattle.std.specs.List.{list_all, list_any}
use Rattle.lin_atoms.specs.Truth.{truth}
use Rattle.lia_stack.proofs.broken.first_disjunction.Given as goal

-- none so far
abbrev pub invariant-loop-at : goal.invariant-loop-at
invariant-loop-at l = list_all (list_any (truth l.point)) (take l.at l.cases) ≡ true
