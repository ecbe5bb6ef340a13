use Rattle.std.proofs.Common.{◌≡◌, ◌+◌, ◌-◌, ◌≤◌, ◌++◌, drop, length}
use Rattle.term_check.specs.Spelling.{lets_from}
use Rattle.term_check.proofs.bindings.Bindings.bind_lets.Given as goal

abbrev pub invariant-loop-i : goal.invariant-loop-i
invariant-loop-i l = (l.self ++ lets_from l.text l.number (drop l.i l.items) (drop l.i l.parts) ≡ l.fn.self ++ lets_from l.text l.first l.items l.parts) × (l.number ≡ l.first + l.i) × (l.i ≤ length l.parts)

abbrev pub decreases-loop-i : goal.decreases-loop-i
decreases-loop-i l = length l.items - l.i
