use Rattle.std.proofs.Common.{◌≡◌, ℕ, ◌<◌, length}
use Rattle.term_tables.specs.machinery.Table.{constant_in, short_constant_of}
use Rattle.term_tables.proofs.constant_table.ConstantTable.of.Given as goal

abbrev pub invariant-loop-i : goal.invariant-loop-i
invariant-loop-i l = record {
  long : length l.constants.items ≡ l.i;
  known : (id : ℕ) → id < l.i → constant_in l.constants.items id ≡ short_constant_of l.terms.nodes id;
}
