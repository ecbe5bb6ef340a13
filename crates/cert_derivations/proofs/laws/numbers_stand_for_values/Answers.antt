use Rattle.cert_derivations.proofs.ValueLemmas.{values_back}
use Rattle.cert_derivations.proofs.laws.numbers_stand_for_values.Goals as goal

pub returns : goal.returns
returns c = values_back
