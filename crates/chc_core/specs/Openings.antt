-- How a book begins, and what every opening brings. A first book begins with the root alone; a later one may begin with facts
-- and lemmas, and then only this page grows.
use Rattle.std.specs.Prelude.{ℕ, []}
use Rattle.clause_form.specs.System.{Clauses}
use Rattle.book_rules.specs.Instances.{instances}
use Rattle.book_rules.specs.Kept.{AreRecorded, IsOrdered, IsSound}
use Rattle.book_rules.specs.Places.{AreOver}
use Rattle.book_rules.specs.Rooted.{IsRooted}
use Rattle.book_rules.specs.State.{State, opening}
use Rattle.book_rules.specs.Values.{AreShort}
use Rattle.chc_core.specs.Contents.{Contents}

-- how many units a book may be given
abbrev pub most_units : ℕ
most_units = 1000000

-- the opening from which a book's journal leads to what stands in it
abbrev pub opening_of : Contents → State
opening_of b = opening b.given

-- its lemmas are shown and its facts derivable, the facts are a derivation, the obligations hang under the root, cubes are over
-- their predicates, and values are short
pub record IsOpening (sys : Clauses) (s : State) : Type 0 where
  pub sound : IsSound (instances sys) s
  pub ordered : IsOrdered s
  pub recorded : AreRecorded sys [] s.facts
  pub rooted : IsRooted s
  pub over : AreOver sys s
  pub short : AreShort s
