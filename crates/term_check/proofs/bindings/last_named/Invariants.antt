use Rattle.std.proofs.Common.{◌≡◌, ◌≤◌, take, map, length}
use Rattle.term_check.specs.machinery.Meanings.{named_as}
use Rattle.term_check.specs.Spelling.{bound_to}
use Rattle.term_check.proofs.bindings.last_named.Given as goal

abbrev pub invariant-loop-i : goal.invariant-loop-i
invariant-loop-i l = (bound_to l.name (map named_as (take l.i l.few)) ≡ bound_to l.name (map named_as l.few)) × (l.i ≤ length l.few)

abbrev pub decreases-loop-i : goal.decreases-loop-i
decreases-loop-i l = l.i
