use Rattle.std.proofs.Common.{◌≡◌}
use Rattle.refutation_trees.specs.Refutation.{form_end}
use Rattle.lia_stack.specs.machinery.Searched.{cut}
use Rattle.lia_stack.proofs.cutting.cut.Given as goal

-- the values so far
abbrev pub invariant-cut : goal.invariant-cut
invariant-cut l = l.made.items ≡ cut l.point (form_end l.form) l.variable
