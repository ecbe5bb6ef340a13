use Rattle.farkas_proof.proofs.NodeLemmas.{bounds-append, ends-append}
use Rattle.farkas_proof.proofs.laws.quotients_keep_their_numbers.Goals as goal

pub returns : goal.returns
returns c = record { ends = ends-append; bounds = bounds-append }
