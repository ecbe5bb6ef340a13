-- By which literals of a refutation the bounds of a node's literals are known.
use Rattle.std.specs.Prelude.{◌≡◌, ℕ, ◌+◌, List, [], ◌∷◌, false, Some, slice_get, if◌then◌else◌}
use Rattle.lin_atoms.specs.declared.lit.Lit.{Lit}
use Rattle.lin_atoms.specs.declared.lit.Lit.TheVariants.{Le, Eq, Div, NDiv}
use Rattle.int_rows.specs.Node.{quotients}
use Rattle.int_rows.specs.Ready.{has_no_variable}
use Rattle.refutation_trees.specs.Combination.{quotient}

-- what gives the bounds of a literal with a variable: the literal itself, or what is known of its quotient q
abbrev pub said_by : ℕ → Lit → List Lit
said_by q (Le lin) = Le lin ∷ []
said_by q (Eq lin) = Eq lin ∷ []
said_by q (Div n lin) = quotient q (Div n lin)
said_by q (NDiv n lin) = quotient q (NDiv n lin)

-- how many literals the name of a divisibility's quotient gives
abbrev pub of_division : Lit → ℕ
of_division (Le lin) = 0
of_division (Eq lin) = 0
of_division (Div n lin) = 1
of_division (NDiv n lin) = 2

-- a literal without a variable has no quotient
abbrev pub named_by : Lit → ℕ
named_by lit = if has_no_variable lit then 0 else of_division lit

-- the literals stand among those that are known, from the number on
abbrev pub AreAt : List Lit → ℕ → List Lit → Type 0
AreAt known from lits = (k : ℕ) (lit : Lit) → slice_get lits k ≡ Some lit → slice_get known (from + k) ≡ Some lit

-- each literal stands at its number
abbrev pub ArePlaced : List Lit → List Lit → List ℕ → Type 0
ArePlaced known [] [] = Unit {0}
ArePlaced known [] (p ∷ ps) = ⊥
ArePlaced known (lit ∷ lits) [] = ⊥
ArePlaced known (lit ∷ lits) (p ∷ ps) = (slice_get known p ≡ Some lit) × ArePlaced known lits ps

-- for each literal with a variable, what gives its bounds stands from its number on. Quotients are numbered on from q
abbrev pub AreReasons : List Lit → ℕ → List Lit → List ℕ → Type 0
AreReasons known q [] [] = Unit {0}
AreReasons known q [] (r ∷ rs) = ⊥
AreReasons known q (lit ∷ lits) [] = ⊥
AreReasons known q (lit ∷ lits) (r ∷ rs) = (has_no_variable lit ≡ false → AreAt known r (said_by q lit)) × AreReasons known (q + quotients lit) lits rs
