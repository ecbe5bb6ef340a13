use Rattle.std.proofs.Common.{◌≡◌, ◌+◌, ◌*◌, drop}
use Rattle.std.specs.Prelude.{IsTrue}
use Rattle.std.specs.List.{list_all}
use Rattle.term_tree.specs.Arena.{is_below}
use Rattle.horn_shape.specs.Shape.{body_reading, each}
use Rattle.horn_shape.specs.machinery.Gathering.{onto}
use Rattle.horn_shape.proofs.body.+body.Given as goal

abbrev pub decreases-read_body : goal.decreases-read_body
decreases-read_body l = 3 * l.id.0 + 2

abbrev pub decreases-read_body_form : goal.decreases-read_body_form
decreases-read_body_form l = 3 * l.id.0 + 1

abbrev pub decreases-read_bodies : goal.decreases-read_bodies
decreases-read_bodies l = 3 * l.above.0

abbrev pub invariant-read_bodies-loop-id : goal.invariant-read_bodies-loop-id
invariant-read_bodies-loop-id l = record {
  read : onto l.fn.out (each (body_reading l.terms.nodes) l.lets l.ids) ≡ onto l.out (each (body_reading l.terms.nodes) l.lets (drop l.id-index l.ids));
  below : IsTrue (list_all (is_below l.fn.above.0) (drop l.id-index l.ids));
}
