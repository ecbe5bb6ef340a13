use Rattle.std.proofs.Common.{◌≡◌, drop}
use Rattle.std.specs.List.{list_all}
use Rattle.check_derivation.specs.machinery.Tests.{is_earlier}
use Rattle.check_derivation.proofs.step.are_earlier.Given as goal

-- those to come decide
abbrev pub invariant-loop-premise : goal.invariant-loop-premise
invariant-loop-premise l = list_all (is_earlier l.number) (drop l.premise-index l.premises) ≡ list_all (is_earlier l.number) l.premises
