use Rattle.std.proofs.Common.{◌≡◌, take, true}
use Rattle.std.specs.List.{list_all}
use Rattle.lin_atoms.specs.Linear.{is_short}
use Rattle.lia_close.proofs.taking.are_short.Given as goal

-- those so far
abbrev pub invariant-loop-times : goal.invariant-loop-times
invariant-loop-times l = list_all is_short (take l.times-index l.multipliers) ≡ true
