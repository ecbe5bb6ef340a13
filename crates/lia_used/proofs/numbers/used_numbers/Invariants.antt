use Rattle.lia_used.specs.Used.{AreNumbers}
use Rattle.lia_used.proofs.numbers.used_numbers.Given as goal

-- the numbers so far
abbrev pub invariant-loop-i : goal.invariant-loop-i
invariant-loop-i l = AreNumbers l.i l.numbers.items
