use Rattle.std.proofs.Common.{true}
use Rattle.farkas_proof.proofs.TreeLemmas.{no_point}
use Rattle.farkas_proof.proofs.laws.refuted_forms_have_no_point.Goals as goal

pub returns : goal.returns
returns c = no_point (λ lit. true)
