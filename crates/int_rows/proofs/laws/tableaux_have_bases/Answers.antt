use Rattle.int_rows.proofs.BasisLemmas.{pivoted-basis, table-basis}
use Rattle.int_rows.proofs.laws.tableaux_have_bases.Goals as goal

pub returns-clause-before : goal.returns-clause-before
returns-clause-before c = table-basis

pub returns-clause-after : goal.returns-clause-after
returns-clause-after c = pivoted-basis
