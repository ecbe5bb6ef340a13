use Rattle.std.proofs.Common.{◌≡◌, ◌≤◌, drop, length}
use Rattle.int_rows.specs.machinery.Writing.{turned_terms}
use Rattle.int_rows.proofs.equation.put_terms.Given as goal

-- the terms from the last on
abbrev pub invariant-put : goal.invariant-put
invariant-put l = record {
  within : l.at ≤ length l.terms;
  row : l.row ≡ turned_terms (length l.fn.row) (drop l.at l.terms);
}

abbrev pub decreases-put : goal.decreases-put
decreases-put l = l.at
