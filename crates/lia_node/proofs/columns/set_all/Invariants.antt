use Rattle.std.proofs.Common.{◌≡◌, ◌++◌, map, take, drop}
use Rattle.lia_node.specs.machinery.Columns.{first_of, second_of}
use Rattle.lia_node.proofs.columns.set_all.Given as goal

-- the first columns have their bounds
abbrev pub invariant-loop-column : goal.invariant-loop-column
invariant-loop-column l = l.tableau ≡ record l.fn.tableau { lower = map first_of (take l.column l.sides) ++ drop l.column l.fn.tableau.lower; upper = map second_of (take l.column l.sides) ++ drop l.column l.fn.tableau.upper }
