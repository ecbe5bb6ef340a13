use Rattle.int_rows.proofs.FollowLemmas.{table-basic}
use Rattle.int_rows.proofs.laws.tableau_rows_are_basic.Goals as goal

pub returns : goal.returns
returns c = table-basic
