use Rattle.obligation_tree.proofs.LawLemmas.{leaves-ascend, live-ascends}
use Rattle.obligation_tree.proofs.laws.numbers_ascend.Goals as goal

pub returns : goal.returns
returns c = record { live = live-ascends; leaves = leaves-ascend }
