-- The values of what is derived of a form.
use Rattle.std.proofs.Common.{◌≡◌, List, arith}
use Rattle.std.specs.Prelude.{ℤ, pos, ◌+ℤ◌, ◌-ℤ◌}
use Rattle.std.proofs.lemmas.Int.{ints}
use Rattle.lin_atoms.specs.Algebra.{negated, plus}
use Rattle.lin_atoms.specs.Linear.{Linear, value_at}
use Rattle.lin_atoms.proofs.Public.{value_at-negated}
use Rattle.refutation_trees.specs.Combination.{one_minus}

pub value_at-plus : (point : List ℤ) (lin : Linear) (k : ℤ) → value_at point (plus lin k) ≡ value_at point lin +ℤ k
value_at-plus point lin k = omega (arith, ints)

pub value_at-one_minus : (point : List ℤ) (lin : Linear) → value_at point (one_minus lin) ≡ pos 1 -ℤ value_at point lin
value_at-one_minus point lin =
    let sum = value_at-plus point (negated lin) (pos 1) in
    let negative = value_at-negated point lin in
    omega (arith, ints, sum, negative)
