use Rattle.std.proofs.Common.{◌≡◌, ◌++◌, map, take, drop, false}
use Rattle.std.specs.Prelude.{IsTrue}
use Rattle.std.specs.List.{list_any}
use Rattle.lin_atoms.specs.Linear.{Linear}
use Rattle.linear_terms.specs.Linear.{less}
use Rattle.linear_terms.specs.Formula.{related}
use Rattle.linear_terms.specs.Width.{is_relation}
use Rattle.term_widths.specs.Sides.{is_wide_pair}
use Rattle.term_formulas.proofs.relations.related_with.Given as goal

-- the relations so far, and the differences to come have room
abbrev pub invariant-loop-other : goal.invariant-loop-other
invariant-loop-other l = record {
  made : l.out ≡ l.fn.out ++ map (λ (other : Linear). related l.op l.sign (less l.first other)) (take l.other-index l.others);
  room : IsTrue (is_relation l.op) → list_any is_wide_pair (map (λ (other : Linear). (l.first, other)) (drop l.other-index l.others)) ≡ false;
}
