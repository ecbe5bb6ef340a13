-- A literal is false exactly where a literal of its denial is true.
use Rattle.std.proofs.Common.{◌≡◌, List, Bool, true, false, refl, arith, ◌||◌}
use Rattle.std.specs.Prelude.{ℤ, pos, nat_abs, ◌+ℤ◌, ◌-ℤ◌, int_le, not, ◌==◌}
use Rattle.std.specs.List.{list_any}
use Rattle.std.proofs.lemmas.Int.{ints}
use Rattle.lin_atoms.specs.Linear.{Linear, value_at}
use Rattle.lin_atoms.specs.Algebra.{negated, plus}
use Rattle.lin_atoms.specs.Truth.{lit_truth}
use Rattle.lin_atoms.specs.Denial.{denial}
use Rattle.lin_atoms.specs.declared.lit.Lit.{Lit}
use Rattle.lin_atoms.specs.declared.lit.Lit.TheVariants.{Le, Eq, Div, NDiv}
use Rattle.lin_atoms.proofs.ValueLemmas.{value_at-negated}

less_than_one : (point : List ℤ) (lin : Linear) → value_at point (plus (negated lin) (pos 1)) ≡ pos 1 -ℤ value_at point lin
less_than_one point lin = let e = value_at-negated point lin in omega (arith, ints)

one_more : (point : List ℤ) (lin : Linear) → value_at point (plus lin (pos 1)) ≡ value_at point lin +ℤ pos 1
one_more point lin = omega (arith, ints)

above : (v w : ℤ) → w ≡ pos 1 -ℤ v → (int_le w (pos 0) || false) ≡ not (int_le v (pos 0))
above v w e = grind (arith, ints)

apart : (v u w : ℤ) → u ≡ v +ℤ pos 1 → w ≡ pos 1 -ℤ v → (int_le u (pos 0) || (int_le w (pos 0) || false)) ≡ not (nat_abs v == 0)
apart v u w d e = grind (arith, ints)

or_false : (b : Bool) → (b || false) ≡ b
or_false true = refl
or_false false = refl

not_not : (b : Bool) → (b || false) ≡ not (not b)
not_not true = refl
not_not false = refl

pub denial_is : (point : List ℤ) (lit : Lit) → list_any (lit_truth point) (denial lit) ≡ not (lit_truth point lit)
denial_is point (Le lin) = above (value_at point lin) _ (less_than_one point lin)
denial_is point (Eq lin) = apart (value_at point lin) _ _ (one_more point lin) (less_than_one point lin)
denial_is point (Div d lin) = or_false _
denial_is point (NDiv d lin) = not_not _
