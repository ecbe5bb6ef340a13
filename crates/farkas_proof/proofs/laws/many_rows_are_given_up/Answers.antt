use Rattle.farkas_proof.proofs.NodeLemmas.{many-rows}
use Rattle.farkas_proof.proofs.laws.many_rows_are_given_up.Goals as goal

pub returns : goal.returns
returns c = many-rows
