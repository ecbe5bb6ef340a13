use Rattle.check_derivation.specs.Findings.{AreRightBefore}
use Rattle.check_derivation.proofs.lines.check_derivation.Given as goal

-- those so far are right
abbrev pub invariant-loop-place : goal.invariant-loop-place
invariant-loop-place l = AreRightBefore l.script l.lines l.place
