-- A script that has clauses isn't refused: the bytes before the marker spell it.
use Rattle.std.proofs.Common.{◌≡◌, ℕ, ◌≤◌, List, take, length, ap, refl, arith, ◌∙◌}
use Rattle.std.specs.Prelude.{Option, Some, None, Result, Ok, Err}
use Rattle.std.proofs.lemmas.List.{length-take}
use Rattle.base.specs.Limits.{most_bytes}
use Rattle.term_tree.specs.declared.refusal.Refusal.{Refusal}
use Rattle.term_tree.specs.declared.refusal.Checked.{Checked}
use Rattle.sort_check.specs.Scripts.{Outcome}
use Rattle.clause_form.specs.System.{Clauses}
use Rattle.clause_form.specs.declared.clause.Clause.{Clause}
use Rattle.clause_normal.specs.Reading.{all_clauses, system_reading, unless_stopped}
use Rattle.call_words.specs.declared.status.Status.{Status}
use Rattle.call_check.specs.Calls.{IsJudged}
use Rattle.call_check.specs.declared.found.Found.{Found}
use Rattle.call_check.specs.declared.found.Found.TheVariants.{Refused, Valid, Wrong, NotShown}
use Rattle.call_check.specs.machinery.Plans.{HasVerdict, IsFound, IsTold}

not_stopped : (checked : Checked) (sys : Clauses) → system_reading checked ≡ Ok sys → checked.stop ≡ None
not_stopped checked sys h = by checked.stop (all_clauses checked.script 0 checked.script.asserts) h
  where
    by : (stop : Option Refusal) (read : Result (List Clause) Refusal) → unless_stopped stop checked.script read ≡ Ok sys → stop ≡ None
    by None read made = refl
    by (Some stop) (Err refusal) made = absurd (cc)
    by (Some stop) (Ok clauses) made = absurd (cc)

pub part_is_short : (bytes : List ℕ) → length bytes ≤ most_bytes → (n : ℕ) → length (take n bytes) ≤ most_bytes
part_is_short bytes short n = let long = length-take n bytes in omega (arith, short, long)

judged : (nodes : ℕ) (bytes : List ℕ) (status : Status) (text : List ℕ) → ((n : ℕ) → length (take n bytes) ≤ most_bytes) → HasVerdict nodes bytes status text → IsJudged nodes bytes status text
judged nodes bytes status text short (verdict, judges, is) =
    let none = not_stopped judges.checked judges.system judges.accepted in
    let read = judges.read_as.read in
    record {
      verdict = verdict;
      judges = judges;
      status_is = is;
      commands = read.3.commands;
      is_script = record {
        short = short judges.script;
        trees = read.0;
        stop = read.1;
        reading = read.2;
        legal = read.3.outcome_is ∙ ap (λ (r : Option Refusal). let o : Outcome = record { commands = read.3.commands; refusal = r } in o) none;
      };
      spelled = read.3.script;
    }

pub found : (nodes : ℕ) (bytes : List ℕ) → ((n : ℕ) → length (take n bytes) ≤ most_bytes) → (it : Found) → IsTold nodes bytes it → IsFound nodes bytes it
found nodes bytes short (Refused refusal line) h = absurd h
found nodes bytes short (Valid text) h = judged nodes bytes Status.Answered text.items short h
found nodes bytes short (Wrong text) h = judged nodes bytes Status.Wrong text.items short h
found nodes bytes short (NotShown text) h = judged nodes bytes Status.NotShown text.items short h
