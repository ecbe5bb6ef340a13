use Rattle.std.proofs.Common.{◌≡◌, ◌-◌, ◌≤◌, ◌++◌, map, drop, false}
use Rattle.std.specs.Prelude.{IsTrue}
use Rattle.std.specs.List.{list_any}
use Rattle.lin_atoms.specs.Linear.{Linear}
use Rattle.linear_terms.specs.Linear.{less}
use Rattle.linear_terms.specs.Formula.{neighbours, related}
use Rattle.linear_terms.specs.Width.{is_relation}
use Rattle.term_widths.specs.Sides.{is_wide_pair}
use Rattle.term_formulas.proofs.relations.related_neighbours.Given as goal

-- the relations so far stand before those of the sides from the last one on
abbrev pub invariant-loop-i : goal.invariant-loop-i
invariant-loop-i l = record {
  from : 1 ≤ l.i;
  made : l.parts ++ map (λ (p : Linear × Linear). related l.op l.sign (less p.0 p.1)) (neighbours (drop (l.i - 1) l.forms)) ≡ map (λ (p : Linear × Linear). related l.op l.sign (less p.0 p.1)) (neighbours l.forms);
  room : IsTrue (is_relation l.op) → list_any is_wide_pair (neighbours (drop (l.i - 1) l.forms)) ≡ false;
}
