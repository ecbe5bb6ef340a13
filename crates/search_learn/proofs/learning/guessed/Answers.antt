use Rattle.search_learn.proofs.learning.guessed.Goals as goal

pub hulled-requires-clause-learnt : goal.hulled-requires-clause-learnt
hulled-requires-clause-learnt c = c.in_ok-tidied.ensures.learnt

pub summed-requires-clause-learnt : goal.summed-requires-clause-learnt
summed-requires-clause-learnt c = c.in_ok-general.ensures.learnt
