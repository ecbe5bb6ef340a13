use Rattle.std.proofs.Common.{◌≡◌, take, drop, length}
use Rattle.std.specs.List.{filter}
use Rattle.model_project.specs.Elimination.{has_variable, tidied}
use Rattle.model_project.specs.Substitution.{replaced}
use Rattle.model_project.specs.machinery.Steps.{behind}
use Rattle.model_project.proofs.substitution.substitute_all.Given as goal

-- what is made, and what the literals to come give
abbrev pub invariant-loop-i : goal.invariant-loop-i
invariant-loop-i l = record {
  told : tidied (replaced l.variable l.equation l.fn.came l.fn.lits) ≡ behind (filter has_variable (take l.i l.lits)) (tidied (replaced l.variable l.equation l.came (drop l.i l.lits)));
  rest : drop l.i l.lits ≡ drop l.i l.fn.lits;
  size : length l.lits ≡ length l.fn.lits;
}
