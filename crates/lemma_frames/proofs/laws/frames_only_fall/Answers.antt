use Rattle.lemma_frames.proofs.PrefixLemmas.{frame_falls}
use Rattle.lemma_frames.proofs.laws.frames_only_fall.Goals as goal

pub returns : goal.returns
returns c = frame_falls
