use Rattle.term_tree.proofs.Public.{both_true}
use Rattle.lin_atoms.specs.Linear.{are_short, is_short}
use Rattle.term_formulas.proofs.literals.narrow_constant.Goals as goal

pub returns : goal.returns
returns c = (both_true (are_short c.args.lin.now.terms) (is_short c.args.lin.now.constant) c.requires).1
