use Rattle.std.proofs.Common.{◌≡◌, ◌+◌, ◌*◌, [], drop}
use Rattle.std.specs.Prelude.{IsTrue}
use Rattle.std.specs.List.{list_all}
use Rattle.term_tree.specs.Arena.{is_below}
use Rattle.term_tables.specs.machinery.Table.{constant_in}
use Rattle.term_forms.specs.Found.{naming_in}
use Rattle.term_forms.specs.machinery.Reading.{AreRead, each, told_reading}
use Rattle.term_forms.proofs.reading.+read.Given as goal

abbrev pub decreases-read_form : goal.decreases-read_form
decreases-read_form l = 3 * l.id.0 + 1

abbrev pub decreases-read_part : goal.decreases-read_part
decreases-read_part l = 3 * l.id.0 + 2

abbrev pub decreases-read_forms : goal.decreases-read_forms
decreases-read_forms l = 3 * l.above.0

abbrev pub invariant-read_forms-loop-id : goal.invariant-read_forms-loop-id
invariant-read_forms-loop-id l = record {
  told : each (told_reading (constant_in l.constants) (naming_in l.names.own.items l.names.auxiliary) l.terms.nodes) l.forms (drop l.id-index l.ids)
      ≡ each (told_reading (constant_in l.constants) (naming_in l.names.own.items l.names.auxiliary) l.terms.nodes) [] l.ids;
  below : IsTrue (list_all (is_below l.fn.above.0) (drop l.id-index l.ids));
  known : AreRead (constant_in l.constants) (naming_in l.names.own.items l.names.auxiliary) l.terms.nodes l.known;
}
