use Rattle.lia_backjump.proofs.ShortLemmas.{short-there}
use Rattle.lia_backjump.proofs.telling.examined.Goals as goal

pub by_falsehood-requires-clause-short : goal.by_falsehood-requires-clause-short
by_falsehood-requires-clause-short c = short-there c.args.end c.args.lits.now c.in-False.at _ _ c.requires.short c.in-False.is c.in_ok-at.ensures.tells c.index-lits-at.is
