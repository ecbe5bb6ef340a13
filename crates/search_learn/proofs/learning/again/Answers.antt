use Rattle.lemma_general.specs.Tries.{part_of}
use Rattle.search_learn.proofs.LearnLemmas.{target-lent}
use Rattle.search_learn.proofs.learning.again.Goals as goal

pub obligation-obligation-requires : goal.obligation-obligation-requires
obligation-obligation-requires c = target-lent _ c.args.lent.now c.part-part.result.now (part_of c.args.tries.now) c.lent.view_is c.part-part.ensures c.requires.trying.learnt
