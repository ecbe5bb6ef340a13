use Rattle.obligation_tree.proofs.LawLemmas.{live-untold}
use Rattle.obligation_tree.proofs.laws.what_stays_live_is_not_told_of.Goals as goal

pub returns : goal.returns
returns c = live-untold
