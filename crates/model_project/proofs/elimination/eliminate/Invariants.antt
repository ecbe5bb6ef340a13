use Rattle.std.proofs.Common.{◌≡◌, length, Some, true}
use Rattle.model_project.specs.Projection.{are_true, eliminated}
use Rattle.model_project.specs.machinery.Steps.{are_narrow, have_divisors}
use Rattle.model_project.proofs.elimination.eliminate.Given as goal

-- the variables below decide
abbrev pub invariant-loop-variable : goal.invariant-loop-variable
invariant-loop-variable l = record {
  told : eliminated l.model l.keep (length l.model) (Some l.fn.lits.items) ≡ eliminated l.model l.keep l.variable (Some l.lits.items);
  narrow : are_narrow l.lits.items ≡ true;
  divisors : have_divisors l.lits.items ≡ true;
  holds : are_true l.model l.lits.items ≡ true;
}

abbrev pub decreases-loop-variable : goal.decreases-loop-variable
decreases-loop-variable l = l.variable
