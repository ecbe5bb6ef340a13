use Rattle.std.proofs.Common.{◌-◌, sym, ◌∙◌, arith}
use Rattle.term_widths.proofs.SideLemmas.{last_neighbours}
use Rattle.term_widths.proofs.sides.are_wide_neighbours.Goals as goal

pub returns : goal.returns
returns c = sym (last_neighbours c.args.forms.now (c.loop-i.i - 1) (omega arith)) ∙ c.loop-i.invariant.1
