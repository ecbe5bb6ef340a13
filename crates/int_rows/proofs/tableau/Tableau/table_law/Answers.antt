use Rattle.std.proofs.Common.{subst}
use Rattle.int_rows.specs.Table.{IsTable}
use Rattle.int_rows.proofs.tableau.Tableau.table_law.Goals as goal

pub returns : goal.returns
returns c = subst IsTable c.self.view_is c.self.invariant
