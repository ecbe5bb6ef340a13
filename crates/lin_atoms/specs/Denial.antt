-- The denial of a literal over the integers, where `not (f <= 0)` is `1 - f <= 0`.
use Rattle.std.specs.Prelude.{List, [], ◌∷◌, pos, Bool}
use Rattle.lin_atoms.specs.Linear.{Linear, fits}
use Rattle.lin_atoms.specs.Algebra.{negated, plus}
use Rattle.lin_atoms.specs.declared.lit.Lit.{Lit}
use Rattle.lin_atoms.specs.declared.lit.Lit.TheVariants.{Le, Eq, Div, NDiv}

-- literals of which one is true exactly where the literal is false
abbrev pub denial : Lit → List Lit
denial (Le lin) = Le (plus (negated lin) (pos 1)) ∷ []
denial (Eq lin) = Le (plus lin (pos 1)) ∷ Le (plus (negated lin) (pos 1)) ∷ []
denial (Div d lin) = NDiv d lin ∷ []
denial (NDiv d lin) = Div d lin ∷ []

abbrev pub linear_of : Lit → Linear
linear_of (Le lin) = lin
linear_of (Eq lin) = lin
linear_of (Div d lin) = lin
linear_of (NDiv d lin) = lin

-- whether all numbers of the literal's form have room
abbrev pub lit_fits : Lit → Bool
lit_fits lit = fits (linear_of lit)
