-- The count of inner nodes in evidence of giving up.
use Rattle.std.specs.Prelude.{◌≡◌, ℕ}
use Rattle.refutation_trees.specs.declared.evidence.Evidence.{Evidence}
use Rattle.refutation_trees.specs.declared.evidence.Evidence.TheVariants.{Row, Coordinate, Rows, Nodes}

-- a count of inner nodes is the one that was allowed
abbrev pub CountsTo : ℕ → Evidence → Type 0
CountsTo allowed (Row lits basis entry) = Unit {0}
CountsTo allowed (Coordinate lits basis outside variable) = Unit {0}
CountsTo allowed (Rows lits) = Unit {0}
CountsTo allowed (Nodes nodes) = nodes ≡ allowed
