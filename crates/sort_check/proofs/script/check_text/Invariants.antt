use Rattle.std.proofs.Common.{◌≤◌, ◌-◌, length}
use Rattle.sort_check.specs.machinery.Progress.{IsReadSoFar}
use Rattle.sort_check.proofs.script.check_text.Given as goal

abbrev pub invariant-loop-reader : goal.invariant-loop-reader
invariant-loop-reader l = record {
  so_far : IsReadSoFar l.fn.text l.at l.state;
  within : l.at ≤ length l.fn.text;
}

abbrev pub decreases-loop-reader : goal.decreases-loop-reader
decreases-loop-reader l = length l.fn.text - l.at
