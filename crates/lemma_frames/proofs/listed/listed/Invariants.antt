use Rattle.lemma_frames.specs.machinery.Listing.{IsListed}
use Rattle.lemma_frames.proofs.listed.listed.Given as goal

abbrev pub invariant-loop-id : goal.invariant-loop-id
invariant-loop-id l = IsListed l.lemmas l.pred l.level l.id l.numbers.items
