use Rattle.std.proofs.Common.{◌+◌, ◌-◌, ℕ, cond}
use Rattle.lemma_general.proofs.PassLemmas.{IsRising}
use Rattle.lemma_general.proofs.raising.raise.Given as goal

abbrev pub invariant-raise : goal.invariant-raise
invariant-raise l = IsRising l.lent l.nodes l.fn.part l.part l.going

abbrev pub decreases-raise : goal.decreases-raise
decreases-raise l = cond {A = ℕ} l.going (l.lent.level - l.part.level + 1) 0
