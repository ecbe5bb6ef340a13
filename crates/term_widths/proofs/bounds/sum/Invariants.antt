use Rattle.std.proofs.Common.{◌≡◌, drop}
use Rattle.term_widths.specs.machinery.Room.{bound_in, sum_from}
use Rattle.term_widths.proofs.bounds.sum.Given as goal

-- what the rest gives from here is what all give
abbrev pub invariant-loop-id : goal.invariant-loop-id
invariant-loop-id l = sum_from (bound_in l.known) l.total (drop l.id-index l.ids) ≡ sum_from (bound_in l.known) 0 l.ids
