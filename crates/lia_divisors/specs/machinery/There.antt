-- What a node knows of the literals that are known where its tree stands.
use Rattle.std.specs.Prelude.{◌≡◌, ℕ, List, [], ◌∷◌, ℤ, Bool, true, false, Some, slice_get}
use Rattle.lin_atoms.specs.declared.lit.Lit.{Lit}
use Rattle.lin_atoms.specs.declared.lit.Lit.TheVariants.{Le, Eq, Div, NDiv}
use Rattle.refutation_trees.specs.Combination.{may_be_multiplied}
use Rattle.lia_guesses.specs.declared.said.Said.{Said}

-- each of them stands there, at its number
abbrev pub AreThere : List Lit → List Said → Type 0
AreThere known [] = Unit {0}
AreThere known (s ∷ ss) = (slice_get known s.number ≡ Some s.lit) × AreThere known ss

-- a list in its place: whatever may be multiplied in it stands there
abbrev pub StandsFor : List Lit → List Lit → Type 0
StandsFor filled known = (p : ℕ) (k : ℤ) (lit : Lit) → slice_get filled p ≡ Some lit → may_be_multiplied k lit ≡ true → slice_get known p ≡ Some lit

-- nothing may be multiplied by it
abbrev pub is_blank : Lit → Bool
is_blank (Le lin) = false
is_blank (Eq lin) = false
is_blank (Div n lin) = true
is_blank (NDiv n lin) = true
