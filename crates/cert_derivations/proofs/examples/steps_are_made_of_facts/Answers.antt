use Rattle.std.proofs.Common.{refl}
use Rattle.cert_derivations.proofs.ExampleLemmas.{closed_here}
use Rattle.cert_derivations.proofs.examples.steps_are_made_of_facts.Goals as goal

pub returns : goal.returns
returns c = record { steps = refl; heights = refl; closed = closed_here }
