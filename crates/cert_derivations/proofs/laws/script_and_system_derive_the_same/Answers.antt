use Rattle.cert_derivations.proofs.DerivableLemmas.{derivable_over_system}
use Rattle.cert_derivations.proofs.ReachLemmas.{derivable_by_script}
use Rattle.cert_derivations.proofs.SystemLemmas.{system_made}
use Rattle.cert_derivations.proofs.laws.script_and_system_derive_the_same.Goals as goal

pub returns : goal.returns
returns c = record {
  over_system = λ checked sys h conclusion arena legal made. derivable_over_system checked.script sys (system_made checked sys made) arena legal h conclusion;
  by_script = λ checked sys h conclusion arena legal made. derivable_by_script checked.script sys (system_made checked sys made) arena legal h conclusion;
}
