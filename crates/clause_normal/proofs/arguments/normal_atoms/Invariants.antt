use Rattle.std.proofs.Common.{◌≡◌, map, take, drop}
use Rattle.term_formulas.specs.Written.{naming_by}
use Rattle.clause_normal.specs.Normal.{normal_atom}
use Rattle.clause_normal.specs.machinery.Making.{AreThere}
use Rattle.clause_normal.proofs.arguments.normal_atoms.Given as goal

-- the atoms so far
abbrev pub invariant-loop-atom : goal.invariant-loop-atom
invariant-loop-atom l = record {
  made : l.made ≡ map (normal_atom (naming_by l.names) l.terms.nodes) (take l.atom-index l.atoms);
  there : AreThere l.terms.nodes (drop l.atom-index l.atoms);
}
