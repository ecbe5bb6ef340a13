use Rattle.std.proofs.Common.{◌+◌, ◌≤◌}
use Rattle.derivations.specs.machinery.Marks.{AreMarked}
use Rattle.derivations.proofs.marks.reached.Given as goal

abbrev pub invariant-loop-left : goal.invariant-loop-left
invariant-loop-left l = (l.left ≤ l.id + 1) × AreMarked l.notes l.id l.left l.marks.items

abbrev pub decreases-loop-left : goal.decreases-loop-left
decreases-loop-left l = l.left
