use Rattle.lia_used.proofs.NumberLemmas.{all-refuted}
use Rattle.lia_used.proofs.laws.used_lemmas_refute_all.Goals as goal

pub returns : goal.returns
returns c = all-refuted _ _ _ _ c.requires c.refuted_law.ensures.no_point
