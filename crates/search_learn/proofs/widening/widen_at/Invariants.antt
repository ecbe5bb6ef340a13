use Rattle.search_learn.specs.machinery.Tried.{IsWidenedOn}
use Rattle.search_learn.proofs.widening.widen_at.Given as goal

abbrev pub invariant-loop : goal.invariant-loop
invariant-loop l = IsWidenedOn l.lent l.fn.tries l.tries
