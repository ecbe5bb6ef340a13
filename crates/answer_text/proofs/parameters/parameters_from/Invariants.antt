use Rattle.std.proofs.Common.{◌≡◌, ◌-◌, ◌≤◌, [], drop, length}
use Rattle.answer_text.specs.Reading.{parameters_from}
use Rattle.answer_text.proofs.parameters.parameters_from.Given as goal

abbrev pub invariant-loop-i : goal.invariant-loop-i
invariant-loop-i l = (parameters_from l.text l.found (drop l.i l.trees) (drop l.i l.sorts) ≡ parameters_from l.text [] l.trees l.sorts) × (length l.found ≡ l.i) × (l.i ≤ length l.trees)

abbrev pub decreases-loop-i : goal.decreases-loop-i
decreases-loop-i l = length l.trees - l.i
