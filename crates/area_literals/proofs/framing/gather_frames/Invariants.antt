use Rattle.std.proofs.Common.{drop}
use Rattle.std.specs.List.{list_any}
use Rattle.cube_rules.specs.Views.{lemmas_of}
use Rattle.area_literals.specs.Areas.{all_known_on}
use Rattle.area_literals.specs.machinery.Growing.{stands_on}
use Rattle.area_literals.proofs.LoopLemmas.{IsUnderWay}
use Rattle.area_literals.proofs.framing.gather_frames.Given as goal

abbrev pub invariant-loop-atom : goal.invariant-loop-atom
invariant-loop-atom l =
    IsUnderWay l.point (λ atom lit. list_any (λ e. stands_on l.k atom e lit) (lemmas_of l.frames.lemmas)) (all_known_on l.k (lemmas_of l.frames.lemmas)) l.atoms l.fn.lits.items (drop l.atom-index l.atoms) l.lits.items
