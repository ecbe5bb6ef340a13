-- Which literals a node of a split tree may have.
use Rattle.std.specs.Prelude.{ℕ, ◌+◌, List, [], ◌∷◌, Bool, true, ◌&&◌, nat_lt}
use Rattle.base.specs.Widths.{short_limit}
use Rattle.lin_atoms.specs.Linear.{is_linear, is_short}
use Rattle.lin_atoms.specs.Truth.{lit_is_below}
use Rattle.lin_atoms.specs.declared.lit.Lit.{Lit}
use Rattle.lin_atoms.specs.declared.lit.Lit.TheVariants.{Le, Eq, Div, NDiv}
use Rattle.int_rows.specs.Node.{quotients}

-- each literal speaks of variables below q and of quotients of the literals before it alone, where quotients are numbered on from q
abbrev pub are_known : ℕ → List Lit → Bool
are_known q [] = true
are_known q (lit ∷ lits) = lit_is_below q lit && are_known (q + quotients lit) lits

-- the constant of a divisibility is short, so that both bounds on its remainder have room
abbrev pub has_short_constant : Lit → Bool
has_short_constant (Le lin) = true
has_short_constant (Eq lin) = true
has_short_constant (Div n lin) = is_short lin.constant
has_short_constant (NDiv n lin) = is_short lin.constant

-- a literal as the code has it: its form has rising variables and room, and its divisor is positive and has room
abbrev pub is_legal : Lit → Bool
is_legal (Le lin) = is_linear lin
is_legal (Eq lin) = is_linear lin
is_legal (Div n lin) = nat_lt 0 n && (nat_lt n short_limit && is_linear lin)
is_legal (NDiv n lin) = nat_lt 0 n && (nat_lt n short_limit && is_linear lin)
