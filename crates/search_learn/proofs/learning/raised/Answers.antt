use Rattle.search_learn.proofs.learning.raised.Goals as goal

pub returns : goal.returns
returns c = c.in_ok-higher.ensures.learnt
