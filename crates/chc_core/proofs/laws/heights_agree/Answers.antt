use Rattle.step_rules.proofs.ViewLemmas.{fact-height}
use Rattle.chc_core.proofs.laws.heights_agree.Goals as goal

pub returns : goal.returns
returns c = fact-height
