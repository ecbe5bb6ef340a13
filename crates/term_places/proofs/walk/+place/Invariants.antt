use Rattle.std.proofs.Common.{◌≡◌, ◌+◌, ◌*◌, ◌++◌, drop, map}
use Rattle.std.specs.Prelude.{IsTrue}
use Rattle.std.specs.List.{list_all}
use Rattle.term_tree.specs.Arena.{is_below}
use Rattle.linear_terms.specs.Text.{spot_as}
use Rattle.term_tables.specs.machinery.Table.{sort_in}
use Rattle.term_places.specs.machinery.Placed.{all_placed}
use Rattle.term_places.proofs.walk.+place.Given as goal

abbrev pub decreases-put_places : goal.decreases-put_places
decreases-put_places l = 6 * l.spot.id + 5

abbrev pub decreases-put_parts : goal.decreases-put_parts
decreases-put_parts l = 6 * l.above + 4

abbrev pub decreases-put_operands : goal.decreases-put_operands
decreases-put_operands l = 6 * l.above + 3

abbrev pub decreases-put_choice : goal.decreases-put_choice
decreases-put_choice l = 6 * l.above + 2

abbrev pub decreases-put_one : goal.decreases-put_one
decreases-put_one l = 6 * l.above + 1

abbrev pub decreases-put_all : goal.decreases-put_all
decreases-put_all l = 6 * l.above

-- those so far stand before those to come
abbrev pub invariant-put_all-loop-id : goal.invariant-put_all-loop-id
invariant-put_all-loop-id l = record {
  told : l.out.items ++ all_placed (sort_in l.sorts) l.terms.nodes (map (spot_as l.fn.standing) (drop l.id-index l.ids)) ≡ l.fn.out.items ++ all_placed (sort_in l.sorts) l.terms.nodes (map (spot_as l.fn.standing) l.ids);
  below : IsTrue (list_all (is_below l.fn.above) (drop l.id-index l.ids));
}
