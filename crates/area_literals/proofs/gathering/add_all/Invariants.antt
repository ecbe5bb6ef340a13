use Rattle.std.proofs.Common.{drop}
use Rattle.book_rules.specs.Areas.{is_among}
use Rattle.book_rules.specs.Same.{same_lit}
use Rattle.area_literals.proofs.LoopLemmas.{IsUnderWay}
use Rattle.area_literals.proofs.gathering.add_all.Given as goal

abbrev pub invariant-loop-lit : goal.invariant-loop-lit
invariant-loop-lit l = IsUnderWay l.point (λ lit other. same_lit other lit) (λ lit lits. is_among lits lit) l.more l.fn.lits.items (drop l.lit-index l.more) l.lits.items
