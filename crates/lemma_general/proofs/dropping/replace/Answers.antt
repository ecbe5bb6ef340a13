use Rattle.lemma_general.proofs.TakeLemmas.{replaced}
use Rattle.lemma_general.proofs.dropping.replace.Goals as goal

pub returns : goal.returns
returns c = replaced c.args.lent.now c.args.part.now c.args.cube.now _ c.args.proofs c.requires.goes_on c.requires.learnt c.requires.cube c.requires.held c.in_ok-lemma.ensures c.requires.proofs
