use Rattle.std.proofs.Common.{◌≡◌, ◌≤◌, ◌-◌, take, length}
use Rattle.std.specs.List.{range_with_len}
use Rattle.lia_stack.proofs.beginning.first.Given as goal

-- `at` literals have joined
abbrev pub invariant-taken : goal.invariant-taken
invariant-taken l = record {
  within : l.at ≤ length l.lent;
  few : l.at ≤ l.taken;
  lits : l.lits ≡ take l.at l.lent;
  numbers : l.numbers ≡ range_with_len 0 l.at;
}

abbrev pub decreases-taken : goal.decreases-taken
decreases-taken l = l.taken - l.at
