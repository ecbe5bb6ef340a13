use Rattle.obligation_tree.proofs.LawLemmas.{raise-live, raise-root}
use Rattle.obligation_tree.proofs.laws.a_raise_leaves_the_root.Goals as goal

pub returns : goal.returns
returns c = record { live = raise-live; asks = raise-root }
