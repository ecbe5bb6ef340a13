use Rattle.int_rows.proofs.BasisLemmas.{pivoted-wide}
use Rattle.int_rows.proofs.laws.pivots_without_room_are_wide_rows.Goals as goal

pub returns : goal.returns
returns c = pivoted-wide
