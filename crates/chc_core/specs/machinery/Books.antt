-- The invariant of a book.
use Rattle.std.specs.Prelude.{◌≡◌, ◌≤◌, length, true}
use Rattle.clause_form.specs.System.{is_system}
use Rattle.book_rules.specs.Legal.{AreLegal, replay}
use Rattle.book_rules.specs.Places.{AreOver}
use Rattle.chc_core.specs.Contents.{Contents}
use Rattle.chc_core.specs.Openings.{IsOpening, most_units, opening_of}
use Rattle.step_rules.specs.Standing.{IsNumbered}
use Rattle.chc_core.specs.Views.{AreMadeFor, state_of, steps_of}
use Rattle.step_rules.specs.Falsity.{IsLastFalse}

-- it is the replay of its journal from its opening, and each entry is legal where it is written. That lemmas are good, facts
-- derivable, obligations in their places, and all of them no more than the units, follows. Its cubes are over their predicates
pub record IsBook (b : Contents) : Type 0 where
  pub system : is_system b.system ≡ true
  pub numbered : IsNumbered b.system
  pub given : b.given ≤ most_units
  pub opened : IsOpening b.system (opening_of b)
  pub replayed : replay b.system (opening_of b) (steps_of b.journal) ≡ state_of b
  pub legal : AreLegal b.system (opening_of b) (steps_of b.journal)
  pub made : AreMadeFor b.system b.journal
  pub over : AreOver b.system (state_of b)
  pub preds : b.frames.preds ≡ length b.system.preds
  pub false_last : IsLastFalse b.facts
