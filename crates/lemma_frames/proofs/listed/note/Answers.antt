use Rattle.lemma_frames.proofs.ListingLemmas.{listed_push, listed_skip}
use Rattle.lemma_frames.proofs.listed.note.Goals as goal

pub returns-then-is_in_frame : goal.returns-then-is_in_frame
returns-then-is_in_frame c = rw c.in_ok-push.ensures.items (listed_push c.args.lemmas.now c.args.pred c.args.level c.args.id c.args.numbers.now.items c.requires.listed (c.is_in_frame.ensures.0 c.if-is_in_frame.true))

pub returns : goal.returns
returns c = listed_skip c.args.lemmas.now c.args.pred c.args.level c.args.id c.args.numbers.now.items c.requires.listed (λ in'. (let yes = c.is_in_frame.ensures.1 in' in let no = c.if-is_in_frame.false in absurd (cc)))
