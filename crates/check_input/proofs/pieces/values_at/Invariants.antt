use Rattle.std.proofs.Common.{◌≡◌, ◌++◌, drop}
use Rattle.term_tree.specs.Truth.{as_values}
use Rattle.check_input.proofs.pieces.values_at.Given as goal

-- those so far, and those to come
abbrev pub invariant-loop-i : goal.invariant-loop-i
invariant-loop-i l = l.values.items ++ as_values (drop l.i l.sorts) (drop l.i l.numbers) ≡ as_values l.sorts l.numbers
