use Rattle.book_loop.proofs.carrying.lift_once.Goals as goal

pub offer-requires : goal.offer-requires
offer-requires c = c.in_ok-step.ensures (c.args.book.now).system c.args.nodes c.requires
