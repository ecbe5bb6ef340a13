use Rattle.std.proofs.Common.{◌+◌, ℕ, cond, length}
use Rattle.lemma_general.proofs.PassLemmas.{IsBetween}
use Rattle.lemma_general.proofs.dropping.generalise.Given as goal

abbrev pub invariant-passes : goal.invariant-passes
invariant-passes l = IsBetween l.lent l.nodes l.fn.part l.part l.met l.going

abbrev pub decreases-passes : goal.decreases-passes
decreases-passes l = cond {A = ℕ} l.going (length l.part.lemma + 1) 0
