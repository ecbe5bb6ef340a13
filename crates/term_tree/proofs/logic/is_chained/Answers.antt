use Rattle.std.proofs.Common.{◌∙◌}
use Rattle.term_tree.specs.Relations.{relation_of}
use Rattle.term_tree.proofs.OperatorLemmas.{chained_end}
use Rattle.term_tree.proofs.logic.is_chained.Goals as goal

pub returns : goal.returns
returns c = chained_end (relation_of c.args.op) c.args.values.now c.loop-i.i c.loop-i-test.false ∙ c.loop-i.invariant
