use Rattle.term_check.proofs.LightLemmas.{item_lighter}
use Rattle.term_check.proofs.laws.items_are_lighter.Goals as goal

pub returns : goal.returns
returns c = λ items start end i tree is. item_lighter items start end i tree is
