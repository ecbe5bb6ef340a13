use Rattle.int_rows.proofs.FirstPushLemmas.{first-push}
use Rattle.int_rows.proofs.laws.pushes_make_first_tables.Goals as goal

pub returns : goal.returns
returns c = first-push
