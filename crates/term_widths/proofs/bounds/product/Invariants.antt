use Rattle.std.proofs.Common.{◌≡◌, drop}
use Rattle.term_tables.specs.machinery.Table.{constant_in}
use Rattle.term_widths.specs.machinery.Room.{bound_in, product_from}
use Rattle.term_widths.proofs.bounds.product.Given as goal

-- what the rest gives from here is what all give
abbrev pub invariant-loop-id : goal.invariant-loop-id
invariant-loop-id l = product_from (constant_in l.constants) (bound_in l.known) l.total (drop l.id-index l.ids) ≡ product_from (constant_in l.constants) (bound_in l.known) 1 l.ids
