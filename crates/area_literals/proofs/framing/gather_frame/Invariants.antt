use Rattle.std.proofs.Common.{drop}
use Rattle.cube_rules.specs.Views.{lemmas_of}
use Rattle.area_literals.specs.Areas.{is_known_on}
use Rattle.area_literals.specs.machinery.Growing.{stands_on}
use Rattle.area_literals.proofs.LoopLemmas.{IsUnderWay}
use Rattle.area_literals.proofs.framing.gather_frame.Given as goal

abbrev pub invariant-loop-id : goal.invariant-loop-id
invariant-loop-id l = IsUnderWay l.point (stands_on l.k l.atom) (is_known_on l.k l.atom) (lemmas_of l.frames.lemmas) l.fn.lits.items (drop l.id (lemmas_of l.frames.lemmas)) l.lits.items
