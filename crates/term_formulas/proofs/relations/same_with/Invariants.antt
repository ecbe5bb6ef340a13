use Rattle.std.proofs.Common.{◌≡◌, ◌++◌, map, take, drop}
use Rattle.lin_atoms.specs.Linear.{Linear}
use Rattle.linear_terms.specs.Formula.{same_bits}
use Rattle.term_formulas.specs.machinery.Parts.{AreBits}
use Rattle.term_formulas.proofs.relations.same_with.Given as goal

-- those so far
abbrev pub invariant-loop-other : goal.invariant-loop-other
invariant-loop-other l = record {
  made : l.out ≡ l.fn.out ++ map (λ (other : Linear). same_bits l.sign l.first other) (take l.other-index l.others);
  bits : AreBits (drop l.other-index l.others);
}
