use Rattle.std.proofs.Common.{arith}
use Rattle.lemma_frames.proofs.ListingLemmas.{listed_all}
use Rattle.lemma_frames.proofs.listed.listed.Goals as goal

pub returns : goal.returns
returns c =
    let all = c.count-id-end.ensures in let past = c.loop-id-test.false in
    listed_all c.args.lemmas.now c.args.pred c.args.level c.loop-id.id c.loop-id.numbers.items (omega arith) c.loop-id.invariant
