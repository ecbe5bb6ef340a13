use Rattle.std.proofs.Common.{◌≡◌, drop}
use Rattle.book_rules.specs.OpenRules.{unknown}
use Rattle.book_rules.specs.Walks.{first_told}
use Rattle.step_rules.specs.Taken.{open_of}
use Rattle.cube_rules.specs.Views.{lemmas_of}
use Rattle.step_rules.proofs.open_step.rules.first_unknown.Given as goal

-- the rest decides
abbrev pub invariant-loop-atom : goal.invariant-loop-atom
invariant-loop-atom l = first_told (unknown (lemmas_of l.frames.lemmas) l.k (open_of l.step)) (drop l.atom-index l.atoms) ≡ first_told (unknown (lemmas_of l.frames.lemmas) l.k (open_of l.step)) l.atoms
