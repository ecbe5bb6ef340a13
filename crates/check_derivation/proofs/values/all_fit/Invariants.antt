use Rattle.std.proofs.Common.{◌≡◌, drop}
use Rattle.check_derivation.specs.machinery.Tests.{agree, fits}
use Rattle.check_derivation.proofs.values.all_fit.Given as goal

-- those to come decide
abbrev pub invariant-loop-i : goal.invariant-loop-i
invariant-loop-i l = agree fits (drop l.i l.sorts) (drop l.i l.values) ≡ agree fits l.sorts l.values
