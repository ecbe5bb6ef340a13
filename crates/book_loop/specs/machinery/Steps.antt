-- What the entries of steps that the book takes add to its journal.
use Rattle.std.specs.Prelude.{◌≡◌, ◌<◌, ◌≤◌, ℕ, Bool, true, false, length, take}
use Rattle.book_rules.specs.Walks.{AllOf}
use Rattle.chc_core.specs.Contents.{Contents}
use Rattle.chc_core.specs.Views.{standing_of}
use Rattle.obligation_turn.specs.Turns.{IsThin}
use Rattle.book_loop.specs.Runs.{IsOwn}

-- the book took steps of its own, or none
pub record IsFurther (nodes : ℕ) (old new : Contents) : Type 0 where
  pub system : new.system ≡ old.system
  pub given : new.given ≡ old.given
  pub thin : IsThin (standing_of old) → IsThin (standing_of new)
  pub own : AllOf (IsOwn nodes) old.journal → AllOf (IsOwn nodes) new.journal
  pub longer : length old.journal ≤ length new.journal
  pub begins : take (length old.journal) new.journal ≡ old.journal

-- whether it took any
abbrev pub HasTaken : Contents → Contents → Bool → Type 0
HasTaken old new true = length old.journal < length new.journal
HasTaken old new false = new ≡ old
