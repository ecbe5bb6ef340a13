use Rattle.book_rules.proofs.Public.{forms_equal}
use Rattle.cube_rules.proofs.TestLemmas.{agree}
use Rattle.cube_rules.proofs.same.same_form.Goals as goal

pub returns : goal.returns
returns c = agree _ _ _ c.equals.ensures (forms_equal c.args.a.now c.args.b.now)
