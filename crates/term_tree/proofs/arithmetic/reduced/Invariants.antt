use Rattle.std.proofs.Common.{◌≡◌, map, drop}
use Rattle.std.specs.Prelude.{◌-ℤ◌}
use Rattle.term_tree.specs.Operators.{integer}
use Rattle.term_tree.specs.Width.{checked_fold}
use Rattle.term_tree.proofs.arithmetic.reduced.Given as goal

-- what the rest gives from here is what all give from the start
abbrev pub invariant-loop-value : goal.invariant-loop-value
invariant-loop-value l = checked_fold (λ a n. a -ℤ n) l.total (map integer (drop l.value-index l.values)) ≡ checked_fold (λ a n. a -ℤ n) l.fn.first (map integer l.values)
