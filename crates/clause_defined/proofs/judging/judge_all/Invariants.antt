use Rattle.std.proofs.Common.{◌≤◌, ◌+◌, length, drop}
use Rattle.std.specs.List.{AllByRecursion}
use Rattle.linear_terms.specs.Linear.{Naming}
use Rattle.clause_defined.specs.machinery.Uses.{AreAtVariables, CanBeJudged, IsAtVariables, IsJudged, use_list}
use Rattle.clause_defined.proofs.judging.judge_all.Given as goal

-- the predicates so far are judged, under any names
abbrev pub invariant-loop-atom : goal.invariant-loop-atom
invariant-loop-atom l = record {
  few : l.count ≤ 2049;
  can : AllByRecursion (CanBeJudged l.terms.nodes l.defs) (drop l.atom-index l.clause.atoms);
  stand : (naming : Naming) → AreAtVariables l.terms.nodes naming (length l.clause.vars + l.auxiliary) l.clause
      → AllByRecursion (IsAtVariables l.terms.nodes naming (length l.clause.vars + l.auxiliary)) (drop l.atom-index l.clause.atoms);
  judged : (naming : Naming) → AreAtVariables l.terms.nodes naming (length l.clause.vars + l.auxiliary) l.clause
      → IsJudged l.defs (use_list naming l.terms.nodes (drop l.atom-index l.clause.atoms) l.clause.head) (use_list naming l.terms.nodes l.clause.atoms l.clause.head) (length l.clause.vars + l.auxiliary) l.count;
}
