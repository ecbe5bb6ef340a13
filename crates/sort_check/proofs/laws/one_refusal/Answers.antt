use Rattle.sort_check.proofs.LawLemmas.{refusal_law}
use Rattle.sort_check.proofs.laws.one_refusal.Goals as goal

pub returns : goal.returns
returns c = refusal_law
