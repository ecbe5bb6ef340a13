use Rattle.std.proofs.Common.{◌≡◌, drop}
use Rattle.linear_terms.specs.Linear.{varying_form}
use Rattle.linear_terms.proofs.product.varying.Given as goal

-- none of the factors so far varies
abbrev pub invariant-loop-i : goal.invariant-loop-i
invariant-loop-i l = varying_form (drop l.i l.constants) (drop l.i l.forms) ≡ varying_form l.constants l.forms
