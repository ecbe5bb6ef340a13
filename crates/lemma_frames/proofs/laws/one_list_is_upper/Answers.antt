use Rattle.lemma_frames.proofs.PrefixLemmas.{upper_one}
use Rattle.lemma_frames.proofs.laws.one_list_is_upper.Goals as goal

pub returns : goal.returns
returns c = upper_one
