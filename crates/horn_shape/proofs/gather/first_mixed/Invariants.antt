use Rattle.std.proofs.Common.{◌≡◌, ℕ, drop}
use Rattle.std.specs.Prelude.{IsTrue}
use Rattle.std.specs.List.{list_all}
use Rattle.term_tree.specs.Arena.{is_below}
use Rattle.horn_shape.specs.Shape.{bound_over, Reading}
use Rattle.horn_shape.specs.Flags.{flag_of}
use Rattle.horn_shape.proofs.gather.first_mixed.Given as goal

abbrev pub invariant-loop-id : goal.invariant-loop-id
invariant-loop-id l = record {
  same : (reading : Reading) → bound_over (flag_of l.plain) (drop l.id-index l.ids) reading ≡ bound_over (flag_of l.plain) l.ids reading;
  below : (n : ℕ) → IsTrue (list_all (is_below n) l.ids) → IsTrue (list_all (is_below n) (drop l.id-index l.ids));
}
