use Rattle.search_learn.specs.machinery.Tried.{IsTriedOn}
use Rattle.search_learn.proofs.shrinking.shrink.Given as goal

abbrev pub invariant-loop : goal.invariant-loop
invariant-loop l = IsTriedOn l.lent l.fn.tries l.tries
