use Rattle.term_tree.proofs.HeadLemmas.{headed}
use Rattle.term_tree.proofs.laws.headed_terms_are_true.Goals as goal

pub returns : goal.returns
returns c = λ I n nodes id env arena all h. headed I n nodes arena all id env h
