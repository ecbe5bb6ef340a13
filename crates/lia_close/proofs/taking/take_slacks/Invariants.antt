use Rattle.std.proofs.Common.{◌≡◌, ◌++◌, ◌+◌, ◌*◌, drop, length}
use Rattle.lia_close.specs.machinery.Taken.{rows_of, slacks_from}
use Rattle.lia_close.proofs.taking.take_slacks.Given as goal

-- those so far, and the rest
abbrev pub invariant-loop-literal : goal.invariant-loop-literal
invariant-loop-literal l = record {
  taken : l.taken.items ++ slacks_from l.multipliers l.literal l.column (drop l.literal l.readied) ≡ l.fn.taken.items ++ slacks_from l.multipliers 0 l.first l.readied;
  each : length l.multipliers ≡ 2 * (l.column + rows_of (drop l.literal l.readied));
}
