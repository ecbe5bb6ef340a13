use Rattle.std.proofs.Common.{◌≡◌, ◌++◌, map, drop, false}
use Rattle.std.specs.Prelude.{IsTrue}
use Rattle.std.specs.List.{list_any}
use Rattle.lin_atoms.specs.Linear.{Linear}
use Rattle.linear_terms.specs.Linear.{less}
use Rattle.linear_terms.specs.Formula.{pairs, related}
use Rattle.linear_terms.specs.Width.{is_relation}
use Rattle.term_widths.specs.Sides.{is_wide_pair}
use Rattle.term_formulas.proofs.relations.related_pairs.Given as goal

-- the relations so far stand before those of the sides to come
abbrev pub invariant-loop-i : goal.invariant-loop-i
invariant-loop-i l = record {
  made : l.parts ++ map (λ (p : Linear × Linear). related l.op l.sign (less p.0 p.1)) (pairs (drop l.i l.forms)) ≡ map (λ (p : Linear × Linear). related l.op l.sign (less p.0 p.1)) (pairs l.forms);
  room : IsTrue (is_relation l.op) → list_any is_wide_pair (pairs (drop l.i l.forms)) ≡ false;
}
