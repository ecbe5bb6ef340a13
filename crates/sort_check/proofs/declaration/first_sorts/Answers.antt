use Rattle.std.proofs.Common.{arith, sym}
use Rattle.std.proofs.lemmas.List.{length-take-le, take_all}
use Rattle.sort_check.proofs.declaration.first_sorts.Goals as goal

pub slice_bounds-result-end : goal.slice_bounds-result-end
slice_bounds-result-end c = sym (length-take-le 256 c.args.sorts.now (omega (arith, c.if-sorts-gt-MOST_ARGUMENTS.true)))

pub returns-else-sorts-gt-MOST_ARGUMENTS : goal.returns-else-sorts-gt-MOST_ARGUMENTS
returns-else-sorts-gt-MOST_ARGUMENTS c = sym (take_all 256 c.args.sorts.now (omega (arith, c.if-sorts-gt-MOST_ARGUMENTS.false)))
