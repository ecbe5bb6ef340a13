-- The invariant of a book: the opening has it, and each commit keeps it.
use Rattle.std.proofs.Common.{◌≡◌, ℕ, zero, suc, ◌+◌, ◌<◌, ◌≤◌, List, [], ◌∷◌, ◌++◌, length, get_or, Some, None, refl, ap, sym, ◌∙◌, subst, arith}
use Rattle.std.specs.Prelude.{Option, replicate, true}
use Rattle.std.proofs.lemmas.List.{length-map, map-append}
use Rattle.clause_form.specs.System.{Clauses, is_system}
use Rattle.obligation_tree.specs.Claims.{most_workers}
use Rattle.obligation_tree.specs.Nodes.{fresh, root}
use Rattle.book_rules.specs.Effects.{after}
use Rattle.book_rules.specs.Frames.{IsSolution}
use Rattle.book_rules.specs.declared.end.End.TheVariants.{Sat, Unsat}
use Rattle.book_rules.specs.Instances.{IsDerivable, instances}
use Rattle.book_rules.specs.Kept.{AreRecorded, IsFalse, IsOrdered, IsSound}
use Rattle.book_rules.specs.Legal.{AreLegal, IsLegal, end, replay}
use Rattle.book_rules.specs.Counts.{HasRoom, IsSpentSince}
use Rattle.book_rules.specs.Places.{AreOver, has_places}
use Rattle.book_rules.specs.Rooted.{IsRooted}
use Rattle.book_rules.specs.State.{State, opening}
use Rattle.book_rules.specs.Values.{AreShort}
use Rattle.book_rules.proofs.CountLemmas.{counts-replay, opening_room}
use Rattle.book_rules.proofs.EndLemmas.{sat_is_solution, solution_has_no_false, unsat_is_derivable}
use Rattle.book_rules.proofs.FrameLemmas.{no_false}
use Rattle.book_rules.proofs.JournalLemmas.{legal-push, replay-push}
use Rattle.book_rules.proofs.ListLemmas.{all_of-push}
use Rattle.book_rules.proofs.OverLemmas.{over-after, over-opening}
use Rattle.book_rules.proofs.OrderedLemmas.{ordered-opening, ordered-replay}
use Rattle.book_rules.proofs.RecordLemmas.{recorded-replay}
use Rattle.book_rules.proofs.RootLemmas.{rooted-opening, rooted-replay}
use Rattle.book_rules.proofs.SoundLemmas.{sound-opening, sound-replay}
use Rattle.book_rules.proofs.ValueLemmas.{short-opening, short-replay}
use Rattle.chc_core.specs.Contents.{Contents}
use Rattle.chc_core.specs.Openings.{IsOpening, most_units, opening_of}
use Rattle.chc_core.specs.Views.{AreMadeFor, steps_of}
use Rattle.step_rules.specs.Taken.{AreProjected, IsMadeFor, step_of}
use Rattle.step_rules.specs.declared.step.Step.{Step}
use Rattle.chc_core.specs.Views.{standing_of, state_of}
use Rattle.step_rules.specs.Standing.{IsNumbered, IsStanding}
use Rattle.step_rules.specs.Views.{facts_of, framed_of, lemmas_of, obligation_of, obligations_of}
use Rattle.step_rules.proofs.ViewLemmas.{length-facts}
use Rattle.chc_core.specs.declared.entry.Entry.{Entry}
use Rattle.chc_core.specs.declared.made.Made.{Made}
use Rattle.chc_core.specs.machinery.Books.{IsBook}
use Rattle.chc_core.specs.machinery.Making.{CanTake, IsMadeBy, with_made}
use Rattle.chc_core.proofs.TokenLemmas.{carries}

pub steps-push : (journal : List Entry) (entry : Entry) → steps_of (journal ++ entry ∷ []) ≡ steps_of journal ++ step_of entry.step ∷ []
steps-push journal entry = map-append (λ (e : Entry). step_of e.step) journal (entry ∷ [])

-- the laws, read off the invariant

pub sound : (b : Contents) → IsBook b → IsSound (instances b.system) (state_of b)
sound b kept = subst (IsSound (instances b.system)) kept.replayed (sound-replay b.system (opening_of b) (steps_of b.journal) kept.opened.sound kept.legal)

pub ordered : (b : Contents) → IsBook b → IsOrdered (state_of b)
ordered b kept = subst IsOrdered kept.replayed (ordered-replay b.system (opening_of b) (steps_of b.journal) kept.opened.ordered kept.legal)

pub recorded : (b : Contents) → IsBook b → AreRecorded b.system [] (state_of b).facts
recorded b kept = subst (λ (s : State). AreRecorded b.system [] s.facts) kept.replayed (recorded-replay b.system (opening_of b) (steps_of b.journal) kept.opened.recorded kept.legal)

pub rooted : (b : Contents) → IsBook b → IsRooted (state_of b)
rooted b kept = subst IsRooted kept.replayed (rooted-replay b.system (opening_of b) (steps_of b.journal) kept.opened.rooted)

pub short : (b : Contents) → IsBook b → AreShort (state_of b)
short b kept = subst AreShort kept.replayed (short-replay b.system (opening_of b) (steps_of b.journal) kept.opened.short kept.legal)

-- no more than the units
pub room : (b : Contents) → IsBook b → HasRoom b.given (state_of b)
room b kept = subst (HasRoom b.given) kept.replayed (opening_room b.system b.given (steps_of b.journal) kept.legal)

-- each unit adds one at most
spent-since : (b : Contents) → IsBook b → IsSpentSince (opening_of b) (state_of b)
spent-since b kept = subst (IsSpentSince (opening_of b)) kept.replayed (counts-replay b.system (opening_of b) (steps_of b.journal) kept.legal)

pub units_within : (b : Contents) → IsBook b → b.spent ≤ b.given
units_within b kept = (room b kept).spent

pub lemmas_within : (b : Contents) → IsBook b → length b.frames.lemmas ≤ b.spent
lemmas_within b kept =
    let most : length (lemmas_of b.frames.lemmas) + 0 ≤ 0 + b.spent = (spent-since b kept).lemmas in
    let long = length-map b.frames.lemmas framed_of in
    omega (arith, most, long)

pub facts_within : (b : Contents) → IsBook b → length b.facts ≤ b.spent
facts_within b kept =
    let most : length (facts_of b.facts) + 0 ≤ 0 + b.spent = (spent-since b kept).facts in
    let long = length-facts b.facts in
    omega (arith, most, long)

pub nodes_within : (b : Contents) → IsBook b → length b.tree.nodes ≤ b.spent + 1
nodes_within b kept =
    let most : length (obligations_of b.tree.nodes) + 0 ≤ 1 + b.spent = (spent-since b kept).obligations in
    let long = length-map b.tree.nodes obligation_of in
    omega (arith, most, long)

-- what rules are tried in
pub standing : (b : Contents) → IsBook b → IsStanding (standing_of b)
standing b kept = record { numbered = kept.numbered; rooted = rooted b kept; over = kept.over; false_last = kept.false_last }

-- ends and levels
pub sat-solves : (b : Contents) → IsBook b → (level : ℕ) → end (state_of b) ≡ Some (Sat level) → IsSolution (instances b.system) (state_of b).lemmas level
sat-solves b kept level is = sat_is_solution (instances b.system) (state_of b) level (sound b kept) is

pub sat-no_false : (b : Contents) → IsBook b → (level : ℕ) → end (state_of b) ≡ Some (Sat level) → (h : ℕ) → IsDerivable (instances b.system) h None → ⊥
sat-no_false b kept level is = solution_has_no_false (instances b.system) (state_of b).lemmas level (sat-solves b kept level is)

pub unsat-derives : (b : Contents) → IsBook b → (fact : ℕ) → end (state_of b) ≡ Some (Unsat fact) → IsFalse (instances b.system) (state_of b) fact
unsat-derives b kept fact is = unsat_is_derivable (instances b.system) (state_of b) fact (sound b kept) is

pub below-no_false : (b : Contents) → IsBook b → (h : ℕ) → h ≤ b.level → IsDerivable (instances b.system) h None → ⊥
below-no_false b kept = no_false (instances b.system) (state_of b) (sound b kept)

-- a book of new parts
pub new_book : (sys : Clauses) (units : ℕ) → IsOpening sys (opening units)
new_book sys units = record { sound = sound-opening (instances sys) units; ordered = ordered-opening units; recorded = tt; rooted = rooted-opening units; over = over-opening sys units; short = short-opening units }

pub new-kept : (sys : Clauses) (units : ℕ) → is_system sys ≡ true → IsNumbered sys → units ≤ most_units
    → IsBook (record { system = sys; given = units; level = 0; spent = 0; frames = record { preds = length sys.preds; lemmas = [] }; facts = []; tree = record { nodes = fresh (root 1) ∷ []; claims = replicate most_workers None }; journal = [] })
new-kept sys units legal numbered given = record {
  system = legal;
  numbered = numbered;
  given = given;
  opened = new_book sys units;
  replayed = refl;
  legal = tt;
  made = tt;
  over = over-opening sys units;
  preds = refl;
  false_last = λ n within. absurd (omega arith);
}

-- the step is legal
pub legal-step : (b : Contents) (step : Step) → CanTake b step → IsMadeFor b.system step → AreProjected step → IsLegal b.system (state_of b) (step_of step)
legal-step b step can made area = record { goes_on = can.goes_on; carries = carries b.system step made area; unbroken = can.unbroken }

-- with what a step made, and its entry
pub kept-journal : (b : Contents) (m : Made) (entry : Entry) → IsBook b → IsLegal b.system (state_of b) (step_of entry.step) → IsMadeBy b entry.step m
    → (replay b.system (opening_of b) (steps_of (b.journal ++ entry ∷ [])) ≡ state_of (with_made b m entry)) × AreLegal b.system (opening_of b) (steps_of (b.journal ++ entry ∷ []))
kept-journal b m entry kept legal made =
    let now = subst (λ (s : State). IsLegal b.system s (step_of entry.step)) (sym kept.replayed) legal in
    (ap (replay b.system (opening_of b)) (steps-push b.journal entry) ∙ replay-push b.system (opening_of b) (steps_of b.journal) (step_of entry.step) ∙ ap (λ (s : State). after b.system s (step_of entry.step)) kept.replayed ∙ sym (made.state entry), subst (AreLegal b.system (opening_of b)) (sym (steps-push b.journal entry)) (legal-push b.system (opening_of b) (steps_of b.journal) (step_of entry.step) kept.legal now))

pub kept-book : (b : Contents) (m : Made) (entry : Entry) → CanTake b entry.step → IsMadeFor b.system entry.step → IsLegal b.system (state_of b) (step_of entry.step) → has_places b.system (step_of entry.step) ≡ true → IsMadeBy b entry.step m → IsBook (with_made b m entry)
kept-book b m entry can for legal places made =
    let kept = can.kept in
    let journal = kept-journal b m entry kept legal made in
    record {
      system = kept.system;
      numbered = kept.numbered;
      given = kept.given;
      opened = kept.opened;
      replayed = journal.0;
      legal = journal.1;
      made = all_of-push (λ (e : Entry). IsMadeFor b.system e.step) b.journal entry kept.made for;
      over = subst (AreOver b.system) (sym (made.state entry)) (over-after b.system (state_of b) (step_of entry.step) kept.system kept.over places can.unbroken);
      preds = made.preds ∙ kept.preds;
      false_last = made.last;
    }

-- claims are no part of it
pub kept-claims : (b : Contents) (claims : List (Option ℕ)) → IsBook b → IsBook (record b { tree = record b.tree { claims = claims } })
kept-claims b claims kept = record { system = kept.system; numbered = kept.numbered; given = kept.given; opened = kept.opened; replayed = kept.replayed; legal = kept.legal; made = kept.made; over = kept.over; preds = kept.preds; false_last = kept.false_last }

-- the tokens of one entry
pub made-at : (sys : Clauses) (journal : List Entry) (n : ℕ) (e : Entry) → n < length journal → e ≡ get_or journal n e → AreMadeFor sys journal → IsMadeFor sys e.step
made-at sys [] n e within is made = absurd (omega arith)
made-at sys (x ∷ journal) zero e within is made = subst (λ (y : Entry). IsMadeFor sys y.step) (sym is) made.0
made-at sys (x ∷ journal) (suc n) e within is made = made-at sys journal n e (omega arith) is made.1
