use Rattle.std.proofs.Common.{◌≡◌, drop}
use Rattle.std.specs.List.{list_all}
use Rattle.lin_atoms.specs.Truth.{is_below}
use Rattle.lin_atoms.proofs.form.+is_below.Given as goal

-- the parts to come decide
abbrev pub invariant-all_are_below-loop-part : goal.invariant-all_are_below-loop-part
invariant-all_are_below-loop-part l = list_all (is_below l.n) (drop l.part-index l.parts) ≡ list_all (is_below l.n) l.parts
