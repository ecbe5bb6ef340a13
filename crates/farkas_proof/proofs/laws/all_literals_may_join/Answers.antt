use Rattle.farkas_proof.proofs.NodeLemmas.{all-join}
use Rattle.farkas_proof.proofs.laws.all_literals_may_join.Goals as goal

pub returns : goal.returns
returns c = all-join
