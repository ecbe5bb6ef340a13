use Rattle.search_learn.specs.machinery.Tried.{IsWidenedOn}
use Rattle.search_learn.proofs.widening.widen.Given as goal

abbrev pub invariant-loop-at : goal.invariant-loop-at
invariant-loop-at l = IsWidenedOn l.lent l.initial.tries l.tries
