-- A book as the rules see it: what stands in it, and the steps of its journal.
use Rattle.std.specs.Prelude.{List, map, length}
use Rattle.book_rules.specs.State.{State}
use Rattle.book_rules.specs.Steps.{Step as PlainStep}
use Rattle.step_rules.specs.Standing.{Standing, standing_state}
use Rattle.book_rules.specs.Walks.{AllOf}
use Rattle.clause_form.specs.System.{Clauses}
use Rattle.step_rules.specs.Taken.{IsMadeFor, step_of}
use Rattle.chc_core.specs.Contents.{Contents}
use Rattle.chc_core.specs.declared.entry.Entry.{Entry}

-- all but the journal itself
abbrev pub standing_of : Contents → Standing
standing_of b = record { system = b.system; given = b.given; level = b.level; spent = b.spent; entries = length b.journal; frames = b.frames; facts = b.facts; tree = b.tree }

-- the state of which the rules speak
abbrev pub state_of : Contents → State
state_of b = standing_state (standing_of b)

-- what a journal's entries did, in order
abbrev pub steps_of : List Entry → List PlainStep
steps_of journal = map (λ (e : Entry). step_of e.step) journal

-- the tokens of each entry were made for the clauses
abbrev pub AreMadeFor : Clauses → List Entry → Type 0
AreMadeFor sys journal = AllOf (λ (e : Entry). IsMadeFor sys e.step) journal
