use Rattle.std.proofs.Common.{◌≡◌, drop, false}
use Rattle.std.specs.Prelude.{IsTrue}
use Rattle.std.specs.List.{list_all}
use Rattle.term_tree.specs.Arena.{is_below}
use Rattle.horn_shape.specs.Shape.{disjuncts}
use Rattle.horn_shape.specs.machinery.Gathering.{onto}
use Rattle.horn_shape.proofs.disjunct.read_disjuncts.Given as goal

abbrev pub invariant-loop-id : goal.invariant-loop-id
invariant-loop-id l = record {
  read : onto l.fn.out (disjuncts l.terms.nodes false l.lets l.ids) ≡ onto l.out (disjuncts l.terms.nodes l.headed l.lets (drop l.id-index l.ids));
  below : IsTrue (list_all (is_below l.fn.above.0) (drop l.id-index l.ids));
}
