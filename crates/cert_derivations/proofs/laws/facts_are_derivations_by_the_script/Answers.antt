use Rattle.cert_derivations.proofs.HeightLemmas.{fact_derivable}
use Rattle.cert_derivations.proofs.StepLemmas.{facts_derive}
use Rattle.cert_derivations.proofs.SystemLemmas.{system_made}
use Rattle.cert_derivations.proofs.laws.facts_are_derivations_by_the_script.Goals as goal

pub returns : goal.returns
returns c = record {
  derivation = λ checked sys facts among arena legal made recorded. facts_derive checked.script sys (system_made checked sys made) arena legal facts recorded among;
  derivable = λ checked sys facts n fact arena legal made recorded. fact_derivable checked.script sys (system_made checked sys made) arena legal facts recorded n fact;
}
