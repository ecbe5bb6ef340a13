-- What the book of a run keeps over claims and entries.
use Rattle.std.proofs.Common.{◌≡◌, ℕ, ◌+◌, List, [], ◌∷◌, ◌++◌, length, ap, sym, ◌∙◌, subst}
use Rattle.std.specs.Prelude.{Option, Some, None, IfSome}
use Rattle.std.proofs.lemmas.List.{length_push}
use Rattle.clause_form.specs.System.{Clauses}
use Rattle.book_rules.specs.Effects.{after}
use Rattle.book_rules.specs.Frames.{AreGood}
use Rattle.book_rules.specs.Instances.{instances}
use Rattle.book_rules.specs.Legal.{AreLegal, replay}
use Rattle.book_rules.specs.State.{opening}
use Rattle.book_rules.specs.Walks.{AllOf}
use Rattle.book_rules.proofs.ListLemmas.{all_of-push}
use Rattle.step_rules.specs.Taken.{step_of}
use Rattle.step_rules.specs.declared.step.Step.{Step}
use Rattle.chc_core.specs.Contents.{Contents}
use Rattle.chc_core.specs.Openings.{opening_of}
use Rattle.chc_core.specs.Views.{standing_of, state_of, steps_of}
use Rattle.chc_core.specs.declared.entry.Entry.{Entry}
use Rattle.clause_queries.specs.Answers.{AreFew}
use Rattle.obligation_turn.specs.Turns.{IsThin, StepIsThin}
use Rattle.step_rules.specs.declared.lemma_step.part.LemmaPart.{LemmaPart}
use Rattle.search_strategy.specs.Older.{IsOlder}
use Rattle.search_strategy.proofs.ThinLemmas.{thin-after}
use Rattle.shared_book.specs.Locks.{with_claims}
use Rattle.shared_book.specs.Runs.{IsEntry, IsOlderInRun, IsRunBook}

-- claims and entries

pub thin-claims : (b : Contents) (claims : List (Option ℕ)) → IsThin (standing_of b) → IsThin (standing_of (with_claims claims b))
thin-claims b claims h = record { lemmas = h.lemmas; obligations = h.obligations }

pub run-claims : (sys : Clauses) (units nodes workers : ℕ) (b c : Contents) (claims : List (Option ℕ)) → c ≡ with_claims claims b → IsRunBook sys units nodes workers b → IsRunBook sys units nodes workers c
run-claims sys units nodes workers b c claims is h =
    subst (IsRunBook sys units nodes workers) (sym is) (record { system = h.system; given = h.given; few = h.few; entries = h.entries; thin = thin-claims b claims h.thin })

pub run-step : (sys : Clauses) (units nodes workers worker : ℕ) (b c : Contents) (step : Step) → IsRunBook sys units nodes workers b → state_of c ≡ after b.system (state_of b) (step_of step)
    → c.system ≡ b.system → c.given ≡ b.given → c.journal ≡ b.journal ++ (record { worker = worker; step = step }) ∷ []
    → IsEntry workers nodes (record { worker = worker; step = step }) → StepIsThin step → IsRunBook sys units nodes workers c
run-step sys units nodes workers worker b c step h state system given journal entry thin = record {
  system = system ∙ h.system;
  given = given ∙ h.given;
  few = h.few;
  entries = subst (AllOf (IsEntry workers nodes)) (sym journal) (all_of-push (IsEntry workers nodes) b.journal (record { worker = worker; step = step }) h.entries entry);
  thin = thin-after b c step state h.thin thin;
}

pub longer : (b c : Contents) (entry : Entry) → c.journal ≡ b.journal ++ entry ∷ [] → length c.journal ≡ length b.journal + 1
longer b c entry is = ap (λ (j : List Entry). length j) is ∙ length_push b.journal entry

pub run-opening : (sys : Clauses) (units nodes workers : ℕ) (b : Contents) → b.system ≡ sys → b.given ≡ units → b.journal ≡ [] → AreFew b.system → IsThin (standing_of b) → IsRunBook sys units nodes workers b
run-opening sys units nodes workers b system given new few thin =
    record { system = system; given = given; few = subst AreFew system few; entries = subst (AllOf (IsEntry workers nodes)) (sym new) tt; thin = thin }

-- by the run's name of the opening

pub named-replay : (sys : Clauses) (units : ℕ) (b : Contents) → b.system ≡ sys → b.given ≡ units → replay b.system (opening_of b) (steps_of b.journal) ≡ state_of b
    → replay sys (opening units) (steps_of b.journal) ≡ state_of b
named-replay sys units b system given is =
    subst (λ (x : Clauses). replay x (opening units) (steps_of b.journal) ≡ state_of b) system (subst (λ (n : ℕ). replay b.system (opening n) (steps_of b.journal) ≡ state_of b) given is)

pub named-legal : (sys : Clauses) (units : ℕ) (b : Contents) → b.system ≡ sys → b.given ≡ units → AreLegal b.system (opening_of b) (steps_of b.journal) → AreLegal sys (opening units) (steps_of b.journal)
named-legal sys units b system given is =
    subst (λ (x : Clauses). AreLegal x (opening units) (steps_of b.journal)) system (subst (λ (n : ℕ). AreLegal b.system (opening n) (steps_of b.journal)) given is)

pub named-good : (sys : Clauses) (b : Contents) → b.system ≡ sys → AreGood (instances b.system) (state_of b).lemmas → AreGood (instances sys) (state_of b).lemmas
named-good sys b system good = subst (λ (x : Clauses). AreGood (instances x) (state_of b).lemmas) system good

-- what is older in a book of the run

pub older-in-run : (sys : Clauses) (units nodes workers : ℕ) (part : LemmaPart) (b : Contents) (found : Option (ℕ × ℕ)) → IsRunBook sys units nodes workers b → IfSome found (λ one. IsOlder b.frames.lemmas part one.0 one.1) → IfSome found (λ one. IsOlderInRun sys units nodes workers part one.0 one.1)
older-in-run sys units nodes workers part b None run older = older
older-in-run sys units nodes workers part b (Some one) run older = (∣ (b, run, older) ∣₁)
