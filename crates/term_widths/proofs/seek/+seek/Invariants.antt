use Rattle.std.proofs.Common.{◌≡◌, ◌+◌, ◌*◌, drop}
use Rattle.std.specs.Prelude.{IsTrue}
use Rattle.std.specs.List.{list_all}
use Rattle.term_tree.specs.Arena.{is_below}
use Rattle.linear_terms.specs.Width.{first_among, first_where}
use Rattle.term_tables.specs.machinery.Table.{constant_in}
use Rattle.term_forms.specs.Found.{AreFound, naming_in}
use Rattle.term_widths.specs.Wide.{has_wide_sides}
use Rattle.term_widths.specs.machinery.Seen.{AreClear, AreNarrowTerms}
use Rattle.term_widths.proofs.seek.+seek.Given as goal

abbrev pub decreases-seek : goal.decreases-seek
decreases-seek l = 3 * l.id.0 + 1

abbrev pub decreases-seek_part : goal.decreases-seek_part
decreases-seek_part l = 3 * l.id.0 + 2

abbrev pub decreases-seek_all : goal.decreases-seek_all
decreases-seek_all l = 3 * l.above.0

-- the parts to come decide
abbrev pub invariant-seek_all-loop-id : goal.invariant-seek_all-loop-id
invariant-seek_all-loop-id l = record {
  told : first_among (first_where (has_wide_sides (constant_in l.constants) (naming_in l.names.own.items l.names.auxiliary) l.terms.nodes) l.terms.nodes) (drop l.id-index l.ids)
      ≡ first_among (first_where (has_wide_sides (constant_in l.constants) (naming_in l.names.own.items l.names.auxiliary) l.terms.nodes) l.terms.nodes) l.ids;
  below : IsTrue (list_all (is_below l.fn.above.0) (drop l.id-index l.ids));
  narrow : AreNarrowTerms (constant_in l.constants) (naming_in l.names.own.items l.names.auxiliary) l.terms.nodes (drop l.id-index l.ids);
  known : AreFound (constant_in l.constants) (naming_in l.names.own.items l.names.auxiliary) l.terms.nodes l.known;
  seen : AreClear (constant_in l.constants) (naming_in l.names.own.items l.names.auxiliary) l.terms.nodes l.seen;
}
