-- What a job's book is.
use Rattle.std.proofs.Common.{[], sym, subst}
use Rattle.clause_form.specs.System.{Clauses}
use Rattle.book_rules.specs.Kept.{AreRecorded, IsOrdered}
use Rattle.chc_core.specs.Views.{standing_of, state_of}
use Rattle.clause_queries.specs.Answers.{AreFew}
use Rattle.obligation_turn.specs.Turns.{GoesOn}
use Rattle.step_rules.specs.Standing.{IsStanding}
use Rattle.shared_book.specs.Jobs.{Asked, IsJob}

pub goes_on : (sys : Clauses) (asked : Asked) → IsJob sys asked → IsStanding (standing_of asked.snapshot) → IsOrdered (state_of asked.snapshot)
    → AreRecorded (asked.snapshot).system [] (state_of asked.snapshot).facts → GoesOn (standing_of asked.snapshot)
goes_on sys asked h standing ordered recorded =
    record { few = subst AreFew (sym h.system) h.few; standing = standing; ordered = ordered; recorded = recorded; goes_on = h.goes_on; thin = h.thin }
