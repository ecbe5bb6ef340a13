use Rattle.std.proofs.Common.{◌+◌, []}
use Rattle.book_rules.proofs.CountLemmas.{length-close}
use Rattle.book_rules.proofs.HangingLemmas.{closed_before, closed_now, falls_exactly, now_at, still_live}
use Rattle.book_rules.proofs.openings.all_that_hangs_under_it_falls.Goals as goal

pub returns-clause-falls : goal.returns-clause-falls
returns-clause-falls c = falls_exactly

pub returns-clause-long : goal.returns-clause-long
returns-clause-long c = λ cause s. length-close cause (s.entries + 1) [] s.obligations

pub returns-clause-now : goal.returns-clause-now
returns-clause-now c = λ cause s number o now is there live dead. closed_now (s.entries + 1) o now (now_at cause (s.entries + 1) [] s.obligations number o now is there) live dead

pub returns-clause-before : goal.returns-clause-before
returns-clause-before c = λ cause s number o now is there dead. closed_before (s.entries + 1) o now (now_at cause (s.entries + 1) [] s.obligations number o now is there) dead

pub returns-clause-live : goal.returns-clause-live
returns-clause-live c = λ cause s number o now is there live. still_live (s.entries + 1) o now (now_at cause (s.entries + 1) [] s.obligations number o now is there) live
