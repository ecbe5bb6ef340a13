use Rattle.std.proofs.Common.{◌≡◌, ◌++◌, drop}
use Rattle.clause_normal.specs.Normal.{bits_from}
use Rattle.clause_normal.proofs.guard.put_bits.Given as goal

-- the bits so far stand before those of the variables to come
abbrev pub invariant-loop-v : goal.invariant-loop-v
invariant-loop-v l = l.out ++ bits_from l.v (drop l.v l.vars) ≡ l.fn.out ++ bits_from 0 l.vars
