use Rattle.std.proofs.Common.{sym, ◌∙◌}
use Rattle.lia_divisors.proofs.said.put_literal.Goals as goal

pub returns : goal.returns
returns c known are at = c.in_ok-put_bounds.ensures known are (at (sym c.has_no_variable.ensures ∙ c.if-has_no_variable.false))
