use Rattle.cert_derivations.proofs.BehindLemmas.{steps-end}
use Rattle.cert_derivations.proofs.line_laws.steps_end_in_false.Goals as goal

pub returns : goal.returns
returns c = steps-end
