use Rattle.std.proofs.Common.{◌≡◌, ◌++◌, drop}
use Rattle.linear_terms.specs.Linear.{all_terms}
use Rattle.linear_terms.proofs.sum.all_terms.Given as goal

-- the terms so far stand before those to come
abbrev pub invariant-loop-form : goal.invariant-loop-form
invariant-loop-form l = l.terms.items ++ all_terms (drop l.form-index l.forms) ≡ all_terms l.forms
