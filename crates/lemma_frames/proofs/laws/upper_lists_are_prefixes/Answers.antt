use Rattle.lemma_frames.proofs.PrefixLemmas.{upper_prefix}
use Rattle.lemma_frames.proofs.laws.upper_lists_are_prefixes.Goals as goal

pub returns : goal.returns
returns c = upper_prefix
