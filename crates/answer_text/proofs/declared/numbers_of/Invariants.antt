use Rattle.std.proofs.Common.{◌≤◌, length, drop}
use Rattle.answer_text.specs.machinery.Places.{AreNumbers}
use Rattle.answer_text.proofs.declared.numbers_of.Given as goal

abbrev pub invariant-loop-number : goal.invariant-loop-number
invariant-loop-number l = (l.number ≤ length l.preds) × AreNumbers l.number (drop l.number l.preds) l.numbers.entries

abbrev pub decreases-loop-number : goal.decreases-loop-number
decreases-loop-number l = l.number
