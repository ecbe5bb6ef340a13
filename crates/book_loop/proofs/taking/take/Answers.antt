use Rattle.book_loop.proofs.FurtherLemmas.{further-step, grown}
use Rattle.book_loop.proofs.taking.take.Goals as goal

pub returns-in-Ok-clause-further : goal.returns-in-Ok-clause-further
returns-in-Ok-clause-further c =
    let done = c.in-Ok.ensures in
    further-step c.args.nodes c.args.book.now c.commit.new.self c.args.step done.state done.system done.given done.journal c.requires.taken.counts c.requires.taken.thin

pub returns-in-Ok-clause-grown : goal.returns-in-Ok-clause-grown
returns-in-Ok-clause-grown c = grown c.args.book.now c.commit.new.self _ c.in-Ok.ensures.journal
