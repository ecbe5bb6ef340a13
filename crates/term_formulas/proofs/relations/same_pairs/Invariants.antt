use Rattle.std.proofs.Common.{◌≡◌, ◌++◌, map, drop}
use Rattle.lin_atoms.specs.Linear.{Linear}
use Rattle.linear_terms.specs.Formula.{pairs, same_bits}
use Rattle.term_formulas.specs.machinery.Parts.{AreBits}
use Rattle.term_formulas.proofs.relations.same_pairs.Given as goal

-- those so far stand before those of the bits to come
abbrev pub invariant-loop-i : goal.invariant-loop-i
invariant-loop-i l = record {
  made : l.parts ++ map (λ (p : Linear × Linear). same_bits l.sign p.0 p.1) (pairs (drop l.i l.bits)) ≡ map (λ (p : Linear × Linear). same_bits l.sign p.0 p.1) (pairs l.bits);
  bits : AreBits (drop l.i l.bits);
}
