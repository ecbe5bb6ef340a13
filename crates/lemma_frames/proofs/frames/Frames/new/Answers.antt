use Rattle.std.proofs.Common.{◌≡◌, [], rules}
use Rattle.lemma_frames.proofs.IndexLemmas.{index_none}
use Rattle.lemma_frames.proofs.frames.Frames.new.Goals as goal

pub invariant_of-result : goal.invariant_of-result
invariant_of-result c =
    let none : c.in_ok-lemmas.lemmas ≡ [] = search rules in
    rw (c.loop.invariant, none) (index_none c.loop.counter)
