use Rattle.std.proofs.Common.{◌≡◌, ◌+◌, ◌≤◌, drop}
use Rattle.term_check.specs.Rules.{varying}
use Rattle.term_check.proofs.values.varying.Given as goal

abbrev pub invariant-loop-part : goal.invariant-loop-part
invariant-loop-part l = (l.count + varying (drop l.part-index l.parts) ≡ varying l.parts) × (l.count ≤ l.part-index)
