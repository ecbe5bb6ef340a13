use Rattle.cert_derivations.proofs.HeightLemmas.{heights_are, last_step}
use Rattle.cert_derivations.proofs.laws.heights_are_those_of_facts.Goals as goal

pub returns : goal.returns
returns c = record {
  each = λ sys facts among recorded. heights_are sys facts recorded among;
  last = λ sys facts before n fact recorded. last_step sys facts recorded before n fact;
}
