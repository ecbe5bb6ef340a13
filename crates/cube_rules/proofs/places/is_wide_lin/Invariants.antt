use Rattle.std.proofs.Common.{◌≡◌, drop}
use Rattle.std.specs.List.{list_any}
use Rattle.cube_rules.specs.machinery.Literals.{is_wide_term}
use Rattle.cube_rules.proofs.places.is_wide_lin.Given as goal

-- the rest decides
abbrev pub invariant-loop-term : goal.invariant-loop-term
invariant-loop-term l = list_any is_wide_term (drop l.term-index l.lin.terms) ≡ list_any is_wide_term l.lin.terms
