use Rattle.std.proofs.Common.{◌≡◌, ℕ, ◌<◌, length}
use Rattle.term_tree.specs.Sorts.{sort_of}
use Rattle.term_tables.specs.machinery.Table.{sort_in}
use Rattle.term_tables.proofs.sort_table.SortTable.of.Given as goal

abbrev pub invariant-loop-i : goal.invariant-loop-i
invariant-loop-i l = record {
  long : length l.sorts.items ≡ l.i;
  known : (id : ℕ) → id < l.i → sort_in l.sorts.items id ≡ sort_of l.preds l.terms.nodes id;
}
