use Rattle.search_learn.proofs.learning.plain.Goals as goal

pub returns : goal.returns
returns c = c.in_ok-general.ensures.learnt
