use Rattle.std.proofs.Common.{◌≡◌, ◌++◌, drop}
use Rattle.cube_rules.specs.Views.{lemmas_of}
use Rattle.cube_rules.specs.machinery.Literals.{atom_lits}
use Rattle.cube_rules.proofs.areas.push_lemmas.Given as goal

-- the rest is to come
abbrev pub invariant-loop-id : goal.invariant-loop-id
invariant-loop-id l = l.lits.items ++ atom_lits (drop l.id (lemmas_of l.frames.lemmas)) l.k l.atom ≡ l.fn.lits.items ++ atom_lits (lemmas_of l.frames.lemmas) l.k l.atom
