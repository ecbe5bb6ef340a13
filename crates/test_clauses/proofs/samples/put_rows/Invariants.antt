use Rattle.std.proofs.Common.{◌≡◌, ◌++◌, map, drop}
use Rattle.test_clauses.specs.machinery.Samples.{made_of}
use Rattle.test_clauses.proofs.samples.put_rows.Given as goal

-- those so far stand before those of the rows to come
abbrev pub invariant-loop-row : goal.invariant-loop-row
invariant-loop-row g l = l.terms.nodes ++ map made_of (drop l.row-index l.rows) ≡ l.fn.terms.nodes ++ map made_of l.rows
