-- The tableau of a node's literals before its first pivot.
use Rattle.std.specs.Prelude.{ℕ, List, length}
use Rattle.std.specs.List.{range_with_len}
use Rattle.lin_atoms.specs.declared.lit.Lit.{Lit}
use Rattle.int_rows.specs.Basis.{System}
use Rattle.int_rows.specs.Node.{system}
use Rattle.int_rows.specs.Table.{Table}

-- each slack is basic in its own equation
abbrev pub table_of : System → Table
table_of s = record { variables = s.variables; rows = s.equations; basic = range_with_len s.variables (length s.equations); lower = s.lower; upper = s.upper }

-- the equations and bounds of the literals, where quotients are numbered on from q
abbrev pub node_table : ℕ → List Lit → Table
node_table q lits = table_of (system q lits)
