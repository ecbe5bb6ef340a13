use Rattle.std.proofs.Common.{◌≡◌, take, true}
use Rattle.std.specs.List.{list_all}
use Rattle.lin_atoms.specs.Truth.{lit_truth}
use Rattle.lia_stack.specs.machinery.Opened.{left_lits}
use Rattle.lia_stack.proofs.broken.first_literal.Given as goal

-- none so far
abbrev pub invariant-loop-at : goal.invariant-loop-at
invariant-loop-at l = list_all (lit_truth l.point) (left_lits (take l.at l.left_out)) ≡ true
