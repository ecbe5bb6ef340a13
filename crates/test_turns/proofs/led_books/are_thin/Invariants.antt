use Rattle.std.proofs.Common.{◌≡◌, ◌<◌, ℕ, false}
use Rattle.lemma_frames.specs.Frames.{lemma_of}
use Rattle.book_rules.specs.Areas.{is_wide}
use Rattle.test_turns.proofs.led_books.are_thin.Given as goal

-- those so far
abbrev pub invariant-loop-id : goal.invariant-loop-id
invariant-loop-id l = (k : ℕ) → k < l.id → is_wide (lemma_of l.frames.lemmas k) ≡ false
