use Rattle.std.proofs.Common.{◌≡◌, ◌++◌, drop}
use Rattle.cube_rules.specs.Views.{lemmas_of}
use Rattle.cube_rules.specs.machinery.Literals.{frame_lits}
use Rattle.cube_rules.proofs.areas.frame_lits.Given as goal

-- the rest is to come
abbrev pub invariant-loop-atom : goal.invariant-loop-atom
invariant-loop-atom l = l.lits.items ++ frame_lits (lemmas_of l.frames.lemmas) l.k (drop l.atom-index l.atoms) ≡ frame_lits (lemmas_of l.frames.lemmas) l.k l.atoms
