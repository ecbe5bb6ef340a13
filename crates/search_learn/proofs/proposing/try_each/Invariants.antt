use Rattle.search_learn.specs.machinery.Tried.{IsTriedOn}
use Rattle.search_learn.proofs.proposing.try_each.Given as goal

abbrev pub invariant-loop-cube : goal.invariant-loop-cube
invariant-loop-cube l = IsTriedOn l.lent l.fn.tries l.tries
