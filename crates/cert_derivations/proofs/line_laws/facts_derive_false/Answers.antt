use Rattle.cert_derivations.proofs.DeriveLemmas.{derive-false}
use Rattle.cert_derivations.proofs.line_laws.facts_derive_false.Goals as goal

pub returns : goal.returns
returns c = derive-false
