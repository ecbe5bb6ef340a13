-- What is told of a checked text is told of its bytes.
use Rattle.std.proofs.Common.{◌≡◌, ℕ, ◌≤◌, ◌^◌, List, length, ap, sym, refl, ◌∙◌}
use Rattle.std.specs.Prelude.{Option, Some, None, Result, Ok, Err}
use Rattle.std.specs.List.{AllByRecursion}
use Rattle.term_tree.specs.declared.refusal.Refusal.{Refusal}
use Rattle.term_tree.specs.declared.refusal.Checked.{Checked}
use Rattle.sort_check.specs.Checked.{IsCheckedText}
use Rattle.sort_check.specs.Properties.{IsLegalAssertion, IsWithinLimits}
use Rattle.sort_check.specs.Scripts.{Outcome}
use Rattle.horn_shape.specs.Clause.{IsLegalScript}
use Rattle.clause_form.specs.System.{Clauses}
use Rattle.clause_form.specs.declared.clause.Clause.{Clause}
use Rattle.clause_normal.specs.Reading.{all_clauses, system_reading, unless_stopped}
use Rattle.chc_core.specs.Contents.{Contents}
use Rattle.call_words.specs.declared.limits.Limits.{Limits}
use Rattle.call_solve.specs.Clauses.IsInputRefused.{illegal}
use Rattle.call_solve.specs.Headline.{IsBookFor}
use Rattle.call_solve.specs.declared.answer.Answer.{Answer}
use Rattle.call_solve.specs.declared.answer.Answer.TheVariants.{Answered, Refused, Unfinished}
use Rattle.call_solve.specs.machinery.Answers.{IsAnswerTo, IsSearchedBook, IsToldOf}

-- the script of a text is legal
pub legal_script : (checked : Checked) → AllByRecursion (IsLegalAssertion checked.script) checked.script.asserts → IsWithinLimits checked.script → IsLegalScript checked.script
legal_script checked legal within = record { asserts = legal; few_asserts = within.asserts; few_preds = within.preds; few_args = within.args }

-- a text that has a system isn't refused
not_stopped : (checked : Checked) (sys : Clauses) → system_reading checked ≡ Ok sys → checked.stop ≡ None
not_stopped checked sys h = by checked.stop (all_clauses checked.script 0 checked.script.asserts) h
  where
    by : (stop : Option Refusal) (read : Result (List Clause) Refusal) → unless_stopped stop checked.script read ≡ Ok sys → stop ≡ None
    by None read made = refl
    by (Some stop) (Err refusal) made = absurd (cc)
    by (Some stop) (Ok clauses) made = absurd (cc)

-- so it is a script, and its book is one of that script
module _ (limits : Limits) (bytes : List ℕ) (checked : Checked) (short : length bytes ≤ 2 ^ 24) (text : IsCheckedText bytes checked) where
  book_for : (b : Contents) (counts : List ℕ) → IsSearchedBook limits checked b counts → IsBookFor limits bytes b
  book_for b counts found =
      let none = not_stopped checked b.system found.of.system in
      record {
        commands = text.3.commands;
        script = checked.script;
        is_script = record {
          short = short;
          trees = text.0;
          stop = text.1;
          reading = text.2;
          legal = text.3.outcome_is ∙ ap (λ (r : Option Refusal). let o : Outcome = record { commands = text.3.commands; refusal = r } in o) none;
        };
        spelled = text.3.script;
        of = record {
          arena = found.of.arena;
          legal = found.of.legal;
          system = sym (ap (λ (o : Option Refusal). system_reading (record { script = checked.script; stop = o })) none) ∙ found.of.system;
        };
        given = found.given;
        entries = found.entries;
        level = found.level;
      }

  pub told : (answer : Answer) → IsToldOf limits checked answer → IsAnswerTo limits bytes answer
  unfolding book_for
  told (Refused refusal line) h = (illegal checked short text h.0, h.1)
  told (Answered book counts printed) h = (record { book = book_for book counts.items h.0; ended_by = h.1; ended = h.2; answer = h.3 }, h.0.counted)
  told (Unfinished book counts) h = (book_for book counts.items h, h.counted)
