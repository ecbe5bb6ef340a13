use Rattle.std.proofs.Common.{◌≡◌, drop}
use Rattle.std.specs.List.{list_all, list_any}
use Rattle.lin_atoms.specs.Truth.{truth}
use Rattle.lin_atoms.proofs.truth.+holds.Given as goal

-- the parts to come decide
abbrev pub invariant-all_hold-loop-part : goal.invariant-all_hold-loop-part
invariant-all_hold-loop-part l = list_all (truth l.point) (drop l.part-index l.parts) ≡ list_all (truth l.point) l.parts

abbrev pub invariant-any_holds-loop-part : goal.invariant-any_holds-loop-part
invariant-any_holds-loop-part l = list_any (truth l.point) (drop l.part-index l.parts) ≡ list_any (truth l.point) l.parts
