use Rattle.std.proofs.Common.{◌≡◌, take, true}
use Rattle.step_rules.specs.machinery.Literals.{lemmas_are_short}
use Rattle.step_rules.proofs.stall_step.rules.are_short.Given as goal

-- as far as it has come
abbrev pub invariant-loop-one : goal.invariant-loop-one
invariant-loop-one l = lemmas_are_short (take l.one-index l.used) ≡ true
