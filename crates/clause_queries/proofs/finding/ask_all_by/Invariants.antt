use Rattle.std.proofs.Common.{take}
use Rattle.clause_queries.specs.machinery.Asking.{HaveAsked}
use Rattle.clause_queries.proofs.finding.ask_all_by.Given as goal

abbrev pub invariant-loop-number : goal.invariant-loop-number
invariant-loop-number l = HaveAsked l.sys l.frames.lemmas l.pred l.goal l.k l.nodes (take l.number-index l.number-items) l.gathered
