use Rattle.std.proofs.Common.{◌≡◌, map, take, true}
use Rattle.std.specs.List.{list_all}
use Rattle.lin_atoms.specs.Linear.{is_linear}
use Rattle.int_rows.specs.Node.{equations}
use Rattle.int_rows.proofs.equation.equations.Given as goal

-- the equations so far
abbrev pub invariant-loop-i : goal.invariant-loop-i
invariant-loop-i l = record {
  made : map (λ r. r.items) l.rows.items ≡ equations l.columns l.slack (take l.i l.lins);
  legal : list_all is_linear (take l.i l.lins) ≡ true;
}
