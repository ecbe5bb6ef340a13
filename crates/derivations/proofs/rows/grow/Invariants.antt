use Rattle.std.proofs.Common.{◌≡◌, ℕ, ◌+◌, ◌-◌, length, get_or}
use Rattle.derivations.specs.machinery.Index.{empty}
use Rattle.derivations.proofs.rows.grow.Given as goal

abbrev pub invariant-loop-alloc : goal.invariant-loop-alloc
invariant-loop-alloc l = (k : ℕ) → get_or l.rows.items k empty ≡ get_or l.fn.rows.items k empty

abbrev pub decreases-loop-alloc : goal.decreases-loop-alloc
decreases-loop-alloc l = l.pred + 1 - length l.rows.items
