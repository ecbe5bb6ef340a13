use Rattle.std.proofs.Common.{◌≡◌, take, true}
use Rattle.std.specs.List.{list_all}
use Rattle.lin_atoms.specs.Truth.{is_below}
use Rattle.lia_cases.proofs.asking.are_below.Given as goal

-- the forms so far
abbrev pub invariant-loop-form : goal.invariant-loop-form
invariant-loop-form l = list_all (is_below l.vars) (take l.form-index l.forms) ≡ true
