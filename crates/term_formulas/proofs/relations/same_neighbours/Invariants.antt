use Rattle.std.proofs.Common.{◌≡◌, ◌-◌, ◌≤◌, ◌++◌, map, drop}
use Rattle.lin_atoms.specs.Linear.{Linear}
use Rattle.linear_terms.specs.Formula.{neighbours, same_bits}
use Rattle.term_formulas.specs.machinery.Parts.{AreBits}
use Rattle.term_formulas.proofs.relations.same_neighbours.Given as goal

-- those so far stand before those of the bits from the last one on
abbrev pub invariant-loop-i : goal.invariant-loop-i
invariant-loop-i l = record {
  from : 1 ≤ l.i;
  made : l.parts ++ map (λ (p : Linear × Linear). same_bits l.sign p.0 p.1) (neighbours (drop (l.i - 1) l.bits)) ≡ map (λ (p : Linear × Linear). same_bits l.sign p.0 p.1) (neighbours l.bits);
  bits : AreBits (drop (l.i - 1) l.bits);
}
