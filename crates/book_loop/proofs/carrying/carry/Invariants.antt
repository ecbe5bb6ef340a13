use Rattle.book_loop.specs.machinery.Steps.{HasTaken, IsFurther}
use Rattle.book_loop.proofs.carrying.carry.Given as goal

-- the steps so far
abbrev pub invariant-loop-from : goal.invariant-loop-from
invariant-loop-from l = record {
  further : IsFurther l.nodes l.initial.book l.book;
  taken : HasTaken l.initial.book l.book l.taken;
}
