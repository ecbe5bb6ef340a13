use Rattle.cert_derivations.proofs.ExampleLemmas.{not_absent, not_late, not_missing}
use Rattle.cert_derivations.proofs.examples.premises_come_first.Goals as goal

pub returns : goal.returns
returns c = record { missing = not_missing; late = not_late; absent = not_absent }
