use Rattle.search_learn.proofs.learning.by_hulls_alike.Goals as goal

pub returns : goal.returns
returns c = c.in_ok-proposed.ensures.learnt
