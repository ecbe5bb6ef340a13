use Rattle.std.proofs.Common.{◌≡◌, drop}
use Rattle.std.specs.List.{list_all}
use Rattle.lin_atoms.specs.Linear.{is_short}
use Rattle.lia_guesses.proofs.judging.are_short.Given as goal

-- the values to come decide
abbrev pub invariant-loop-value : goal.invariant-loop-value
invariant-loop-value l = list_all is_short (drop l.value-index l.point) ≡ list_all is_short l.point
