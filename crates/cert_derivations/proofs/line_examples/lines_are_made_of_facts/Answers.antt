use Rattle.std.proofs.Common.{refl}
use Rattle.cert_derivations.proofs.line_examples.lines_are_made_of_facts.Goals as goal

pub returns : goal.returns
returns c = refl
