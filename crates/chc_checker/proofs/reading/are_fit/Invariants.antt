use Rattle.std.proofs.Common.{take}
use Rattle.std.specs.List.{AllByRecursion}
use Rattle.chc_checker.specs.machinery.Reading.{IsFit}
use Rattle.chc_checker.proofs.reading.are_fit.Given as goal

-- those so far
abbrev pub invariant-loop-definition : goal.invariant-loop-definition
invariant-loop-definition l = AllByRecursion IsFit (take l.definition-index l.definitions)
