use Rattle.search_learn.proofs.learning.summed.Goals as goal

pub returns : goal.returns
returns c = c.in_ok-proposed.ensures.learnt
