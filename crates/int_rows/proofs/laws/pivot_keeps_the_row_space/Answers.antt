use Rattle.int_rows.proofs.PivotedLemmas.{table-pivots}
use Rattle.int_rows.proofs.SpaceLemmas.{pivoted-same}
use Rattle.int_rows.proofs.laws.pivot_keeps_the_row_space.Goals as goal

pub returns : goal.returns
returns c = λ t is i column h there factor. pivoted-same i column t.rows (table-pivots t i column is h there factor) factor
