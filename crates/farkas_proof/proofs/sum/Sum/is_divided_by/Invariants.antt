use Rattle.std.proofs.Common.{◌≡◌, drop}
use Rattle.refutation_trees.specs.Combination.{is_divided_by}
use Rattle.farkas_proof.specs.machinery.Sum.{standing}
use Rattle.farkas_proof.proofs.sum.Sum.is_divided_by.Given as goal

-- what the rest gives decides
abbrev pub invariant-loop-term : goal.invariant-loop-term
invariant-loop-term l = is_divided_by l.divisor (standing (drop l.term-index l.self.terms.items) l.self.negated) ≡ is_divided_by l.divisor (standing l.self.terms.items l.self.negated)
