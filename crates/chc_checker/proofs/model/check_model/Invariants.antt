use Rattle.std.proofs.Common.{take}
use Rattle.std.specs.List.{AllByRecursion}
use Rattle.term_tree.specs.Solution.{IsTrueUnder}
use Rattle.chc_checker.proofs.model.check_model.Given as goal

-- the assertions so far are true
abbrev pub invariant-loop-index : goal.invariant-loop-index
invariant-loop-index l = AllByRecursion (IsTrueUnder l.definitions l.script) (take l.index l.script.asserts)
