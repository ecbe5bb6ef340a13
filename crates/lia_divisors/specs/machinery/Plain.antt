-- Trees of leaves, roundings and splits alone.
use Rattle.std.specs.Prelude.{Bool, true, false, ◌&&◌}
use Rattle.refutation_trees.specs.declared.tree.Refutation.{Refutation}
use Rattle.refutation_trees.specs.declared.tree.Refutation.TheOpen.{Refutation-F}
use Rattle.refutation_trees.specs.declared.tree.Refutation.TheFolds.{fold-Refutation}

abbrev pub plain_step : Refutation-F Bool → Bool
plain_step (Refutation-F.Leaf ms) = true
plain_step (Refutation-F.Round ms d sub) = sub
plain_step (Refutation-F.Split lin below above) = below && above
plain_step (Refutation-F.Cases which subs) = false
plain_step (Refutation-F.Quotient lit sub) = false

abbrev pub is_plain : Refutation → Bool
is_plain = fold-Refutation Bool plain_step
