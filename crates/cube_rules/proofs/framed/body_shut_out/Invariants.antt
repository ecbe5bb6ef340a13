use Rattle.std.proofs.Common.{◌≡◌, drop, map}
use Rattle.book_rules.specs.Instances.{atom_at}
use Rattle.book_rules.specs.OpenRules.{shut_out}
use Rattle.book_rules.specs.Walks.{first_told}
use Rattle.cube_rules.specs.Views.{lemmas_of}
use Rattle.cube_rules.proofs.framed.body_shut_out.Given as goal

-- the rest decides
abbrev pub invariant-loop-atom : goal.invariant-loop-atom
invariant-loop-atom l = first_told (shut_out (lemmas_of l.frames.lemmas) l.k) (map (atom_at l.point) (drop l.atom-index l.clause.atoms)) ≡ first_told (shut_out (lemmas_of l.frames.lemmas) l.k) (map (atom_at l.point) l.clause.atoms)
