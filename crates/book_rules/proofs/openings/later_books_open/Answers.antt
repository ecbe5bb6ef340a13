use Rattle.std.proofs.Common.{[]}
use Rattle.book_rules.specs.Instances.{instances}
use Rattle.book_rules.proofs.OpeningLemmas.{derivable_later, ordered-opening_with, over-opening_with, recorded_later, rooted-opening_with, short-opening_with, sound-opening_with}
use Rattle.book_rules.proofs.openings.later_books_open.Goals as goal

pub returns-clause-derivable : goal.returns-clause-derivable
returns-clause-derivable c = derivable_later

pub returns-clause-recorded : goal.returns-clause-recorded
returns-clause-recorded c = λ earlier later facts more all. recorded_later earlier later [] facts more all

pub returns-clause-sound : goal.returns-clause-sound
returns-clause-sound c = λ sys facts units derived. sound-opening_with (instances sys) facts units derived

pub returns-clause-ordered : goal.returns-clause-ordered
returns-clause-ordered c = ordered-opening_with

pub returns-clause-rooted : goal.returns-clause-rooted
returns-clause-rooted c = rooted-opening_with

pub returns-clause-short : goal.returns-clause-short
returns-clause-short c = short-opening_with

pub returns-clause-over : goal.returns-clause-over
returns-clause-over c = over-opening_with
