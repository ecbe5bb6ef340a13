use Rattle.step_rules.proofs.FactLemmas.{found-is}
use Rattle.step_rules.proofs.recording.fact_of.Goals as goal

pub returns : goal.returns
returns c = found-is c.args.facts.now _ c.args.pair.now c.as_slice.result.now c.as_slice.ensures c.find.ensures
