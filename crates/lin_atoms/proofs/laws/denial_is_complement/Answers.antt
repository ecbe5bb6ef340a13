use Rattle.lin_atoms.proofs.DenialLemmas.{denial_is}
use Rattle.lin_atoms.proofs.laws.denial_is_complement.Goals as goal

pub returns : goal.returns
returns c = denial_is
