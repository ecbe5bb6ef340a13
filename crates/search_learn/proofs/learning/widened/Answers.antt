use Rattle.search_learn.proofs.learning.widened.Goals as goal

pub returns : goal.returns
returns c = c.in_ok-wider.ensures.learnt
