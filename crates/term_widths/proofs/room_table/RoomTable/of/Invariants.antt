use Rattle.std.proofs.Common.{◌≡◌, length}
use Rattle.term_tables.specs.machinery.Table.{constant_in}
use Rattle.term_widths.specs.machinery.Room.{AreBounds}
use Rattle.term_widths.proofs.room_table.RoomTable.of.Given as goal

abbrev pub invariant-loop-i : goal.invariant-loop-i
invariant-loop-i l = record {
  long : length l.bounds.items ≡ l.i;
  known : AreBounds (constant_in l.constants) l.terms.nodes l.bounds.items;
}
