use Rattle.std.proofs.Common.{◌≡◌, map, take}
use Rattle.book_rules.specs.Instances.{atom_at}
use Rattle.cube_rules.proofs.instances.body_at.Given as goal

-- as far as it has come
abbrev pub invariant-loop-atom : goal.invariant-loop-atom
invariant-loop-atom l = l.body.items ≡ map (atom_at l.point) (take l.atom-index l.clause.atoms)
