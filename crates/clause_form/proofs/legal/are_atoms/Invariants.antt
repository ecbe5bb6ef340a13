use Rattle.std.proofs.Common.{◌≡◌, drop}
use Rattle.std.specs.List.{list_all}
use Rattle.clause_form.specs.System.{is_atom}
use Rattle.clause_form.proofs.legal.are_atoms.Given as goal

-- the atoms to come decide
abbrev pub invariant-loop-atom : goal.invariant-loop-atom
invariant-loop-atom l = list_all (is_atom l.preds l.variables) (drop l.atom-index l.atoms) ≡ list_all (is_atom l.preds l.variables) l.atoms
