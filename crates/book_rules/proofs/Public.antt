-- The lemmas that proofs of other crates cite.
pub use Rattle.book_rules.proofs.CountLemmas.{counts-after, counts-replay, has_a_unit, marks-at_most, opening_room, within-replay}
pub use Rattle.book_rules.proofs.EndLemmas.{sat_is_solution, solution_has_no_false, unsat_is_derivable}
pub use Rattle.book_rules.proofs.EqualLemmas.{cubes_equal, forms_equal, tuples_equal}
pub use Rattle.book_rules.proofs.FormLemmas.{covered_is_true}
pub use Rattle.book_rules.proofs.FrameLemmas.{derivable_in_frame, good, in_frame-level, no_false}
pub use Rattle.book_rules.proofs.HangingLemmas.{closed_before, closed_now, falls_exactly, now_at, still_live}
pub use Rattle.book_rules.proofs.JournalLemmas.{legal-push, replay-push}
pub use Rattle.book_rules.proofs.OpenedLemmas.{opened_reaches}
pub use Rattle.book_rules.proofs.OpeningLemmas.{derivable_later, ordered-opening_with, over-opening_with, recorded_later, rooted-opening_with, short-opening_with, sound-opening_with}
pub use Rattle.book_rules.proofs.OrderedLemmas.{ordered-after, ordered-opening, ordered-replay, placed}
pub use Rattle.book_rules.proofs.OverLemmas.{learnt-over, over-after, over-opening, over-replay, over-within, places-have}
pub use Rattle.book_rules.proofs.RecordLemmas.{recorded-after, recorded-replay}
pub use Rattle.book_rules.proofs.RootLemmas.{levels_are_between, rooted-after, rooted-opening, rooted-replay}
pub use Rattle.book_rules.proofs.SoundLemmas.{sound-after, sound-opening, sound-replay, unbroken}
pub use Rattle.book_rules.proofs.ValueLemmas.{short-after, short-opening, short-replay}
