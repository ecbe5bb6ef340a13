-- What a turn needs of the book, and how many entries the book has.
use Rattle.std.proofs.Common.{◌≡◌, ◌+◌, ◌≤◌, [], length, None, subst}
use Rattle.book_rules.specs.Counts.{HasRoom}
use Rattle.book_rules.specs.Kept.{AreRecorded, IsOrdered}
use Rattle.book_rules.specs.Legal.{AreLegal, end, replay}
use Rattle.book_rules.proofs.CountLemmas.{opening_room}
use Rattle.step_rules.specs.Standing.{IsStanding}
use Rattle.chc_core.specs.Contents.{Contents}
use Rattle.chc_core.specs.Openings.{opening_of}
use Rattle.chc_core.specs.Views.{standing_of, state_of, steps_of}
use Rattle.obligation_turn.specs.Turns.{GoesOn, IsThin}
use Rattle.search_strategy.specs.Runs.{CanRun}

pub goes_on : (b : Contents) → CanRun b.system → IsStanding (standing_of b) → IsOrdered (state_of b) → AreRecorded b.system [] (state_of b).facts → end (state_of b) ≡ None
    → IsThin (standing_of b) → GoesOn (standing_of b)
goes_on b can standing ordered recorded goes thin = record { few = can.few; standing = standing; ordered = ordered; recorded = recorded; goes_on = goes; thin = thin }

pub room : (b : Contents) → replay b.system (opening_of b) (steps_of b.journal) ≡ state_of b → AreLegal b.system (opening_of b) (steps_of b.journal) → length b.journal ≤ b.given + b.given + 1
room b replayed legal = (subst (HasRoom b.given) replayed (opening_room b.system b.given (steps_of b.journal) legal)).entries
