use Rattle.std.proofs.Common.{◌≡◌, drop}
use Rattle.std.specs.List.{list_any}
use Rattle.lin_atoms.specs.Truth.{truth}
use Rattle.lia_stack.proofs.broken.any_holds.Given as goal

-- the parts to come decide
abbrev pub invariant-loop-part : goal.invariant-loop-part
invariant-loop-part l = list_any (truth l.point) (drop l.part-index l.parts) ≡ list_any (truth l.point) l.parts
