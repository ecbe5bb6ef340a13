use Rattle.std.proofs.Common.{◌≡◌, ℕ, ap}
use Rattle.std.specs.Prelude.{Err, IsErrOf}
use Rattle.clause_normal.specs.declared.stop.NormalStop.{NormalStop}
use Rattle.clause_normal.specs.declared.stop.NormalStop.TheVariants.{TooWide}
use Rattle.clause_defined.proofs.judging.judge_at.Goals as goal

same_stop : {A : Type 0} (stop : NormalStop) (offset : ℕ) → IsErrOf {T = A} (Err stop) (TooWide offset) → stop ≡ TooWide offset
same_stop stop offset is = cc

other_result : {A B : Type 0} (stop : NormalStop) (offset : ℕ) → IsErrOf {T = A} (Err stop) (TooWide offset) → IsErrOf {T = B} (Err stop) (TooWide offset)
other_result stop offset is = ap (λ (s : NormalStop). Err s) (same_stop stop offset is)

pub returns-clause-wide : goal.returns-clause-wide
returns-clause-wide c = λ args first offset have is. c.in-Err.ensures.wide args first offset have (other_result c.in-Err.stop offset is)
