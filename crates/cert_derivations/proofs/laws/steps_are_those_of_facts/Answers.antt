use Rattle.cert_derivations.proofs.StepLemmas.{all_steps}
use Rattle.cert_derivations.proofs.laws.steps_are_those_of_facts.Goals as goal

pub returns : goal.returns
returns c = record {
  long = λ sys facts among closed. (all_steps sys facts among closed).long;
  each = λ sys facts among i n fact closed. (all_steps sys facts among closed).each i n fact;
}
