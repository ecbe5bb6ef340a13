use Rattle.std.proofs.Common.{◌≡◌}
use Rattle.std.specs.List.{flat_map, range_with_len}
use Rattle.lia_close.specs.machinery.Taken.{taken_of}
use Rattle.lia_close.proofs.taking.all_taken.Given as goal

-- those of the variables so far
abbrev pub invariant-loop-variable : goal.invariant-loop-variable
invariant-loop-variable l = l.taken.items ≡ flat_map (taken_of l.readied l.multipliers) (range_with_len 0 l.variable)
