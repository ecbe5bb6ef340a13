use Rattle.lin_atoms.proofs.Public.{both_true}
use Rattle.lin_atoms.specs.Linear.{are_ordered, fits}
use Rattle.linear_terms.proofs.product.rises.Goals as goal

pub returns : goal.returns
returns c = (both_true (are_ordered 0 c.args.form.now.terms) (fits c.args.form.now) c.terms.ensures.legal).0
