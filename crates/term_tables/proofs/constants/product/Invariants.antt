use Rattle.std.proofs.Common.{◌≡◌, drop}
use Rattle.term_tables.specs.machinery.Table.{product_from, short_product}
use Rattle.term_tables.proofs.constants.product.Given as goal

-- what the rest gives from here is what all give
abbrev pub invariant-loop-n : goal.invariant-loop-n
invariant-loop-n l = product_from l.total (drop l.n-index l.constants) ≡ short_product l.constants
