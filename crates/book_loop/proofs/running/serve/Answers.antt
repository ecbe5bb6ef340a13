use Rattle.book_loop.proofs.running.serve.Goals as goal

pub returns-clause-mind : goal.returns-clause-mind
returns-clause-mind c = c.begin.ensures (c.args.book.now).system c.in_ok-step.ensures.mind
