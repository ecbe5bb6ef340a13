use Rattle.std.proofs.Common.{◌∙◌}
use Rattle.term_formulas.proofs.literals.two.Goals as goal

pub returns : goal.returns
returns c = c.from_vec.ensures ∙ c.in_ok-from_array.ensures.items
