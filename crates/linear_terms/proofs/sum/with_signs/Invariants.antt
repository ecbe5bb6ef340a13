use Rattle.std.proofs.Common.{◌≡◌, ◌∷◌, map, take}
use Rattle.lin_atoms.specs.Algebra.{negated}
use Rattle.linear_terms.proofs.sum.with_signs.Given as goal

-- the forms so far
abbrev pub invariant-loop-other : goal.invariant-loop-other
invariant-loop-other l = l.forms.items ≡ l.first ∷ map negated (take l.other-index l.others)
