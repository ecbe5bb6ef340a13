use Rattle.std.proofs.Common.{◌≡◌, drop, length, ◌-◌}
use Rattle.term_check.specs.Rules.{declared_fault}
use Rattle.term_check.proofs.rules.declared_fault.Given as goal

abbrev pub invariant-loop-i : goal.invariant-loop-i
invariant-loop-i l = declared_fault (drop l.i l.sorts) (drop l.i l.parts) ≡ declared_fault l.sorts l.parts

abbrev pub decreases-loop-i : goal.decreases-loop-i
decreases-loop-i l = length l.sorts - l.i
