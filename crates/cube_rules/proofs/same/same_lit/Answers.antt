use Rattle.cube_rules.proofs.TestLemmas.{agree, lits_equal}
use Rattle.cube_rules.proofs.same.same_lit.Goals as goal

pub returns : goal.returns
returns c = agree _ _ _ c.equals.ensures (lits_equal c.args.a.now c.args.b.now)
