-- What a text says of one script that bytes spell it says of each.
use Rattle.std.proofs.Common.{ℕ, List, [], ◌∷◌, ◌++◌, ap, sym, ◌∙◌, subst}
use Rattle.std.specs.Prelude.{None}
use Rattle.term_tree.specs.declared.definition.Definition.{Definition}
use Rattle.term_tree.specs.declared.refusal.Checked.{Checked}
use Rattle.term_tree.specs.declared.script.Pred.{Pred}
use Rattle.term_tree.specs.declared.script.Script.{Script}
use Rattle.sort_check.specs.Checked.{IsCheckedText}
use Rattle.sort_check.specs.Commands.{Command}
use Rattle.sort_check.specs.Scripts.{IsScript, IsScriptOf}
use Rattle.clause_laws.specs.Defined.{breaking_wide}
use Rattle.clause_readings.proofs.InstanceLemmas.{partner}
use Rattle.clause_readings.proofs.TextLemmas.{one_list, same_derivable, same_derivations, same_solutions, text_twins}
use Rattle.cert_derivations.specs.Claims.{DeriveFalse}
use Rattle.answer_text.specs.declared.answer.Answer.{Answer}
use Rattle.answer_text.specs.declared.answer.Answer.TheVariants.{Sat, Unsat, Unknown}
use Rattle.answer_text.specs.declared.answer.Line.{Line}
use Rattle.answer_text.specs.Read.{IsBad, Spells}
use Rattle.check_derivation.specs.Findings.{IsWrongAt}
use Rattle.chc_checker.specs.declared.verdict.Verdict.{Verdict}
use Rattle.chc_checker.specs.Verdicts.{HaveRoom, HaveRoomUnder, IsValid, Judges, Says as Judged}
use Rattle.printed_laws.proofs.LineLemmas.{wide_at_passes, wrong_passes}
use Rattle.printed_laws.proofs.VerdictLemmas.{said}
use Rattle.printed_laws.specs.Printed.{IsSolvedBy, Says}
use Rattle.printed_laws.specs.Printed.Says.{sat, unsat, unknown}

-- a script without a refusal, as it is checked
abbrev whole : Script → Checked
whole script = record { script = script; stop = None }

script_checked : (bytes : List ℕ) (commands : List Command) (script : Script) → IsScript bytes commands → IsScriptOf commands script → IsCheckedText bytes (whole script)
script_checked bytes commands script is spelled = (is.trees, is.stop, is.reading, record { commands = commands; outcome_is = is.legal; script = spelled })

module _ (bytes : List ℕ) (checked other : Checked) (x : IsCheckedText bytes checked) (y : IsCheckedText bytes other) where
  -- lines that derive false by the one derive it by the other
  pub false_passes : (lines : List Line) → DeriveFalse checked.script lines → DeriveFalse other.script lines
  false_passes lines h =
      record { steps = h.steps; last = h.last; said = h.said; derivation = same_derivations bytes checked other x y (h.steps ++ h.last ∷ []) h.derivation; is_false = h.is_false }

  pub spelled_by : (text : List ℕ) (answer : Answer) → Spells other.script.preds text answer → Spells checked.script.preds text answer
  spelled_by text answer h = subst (λ (preds : List Pred). Spells preds text answer) (sym (one_list bytes checked other x y)) h

  -- so is a valid answer
  pub valid_passes : (answer : Answer) → IsValid checked.script answer → IsValid other.script answer
  valid_passes (Sat definitions) h = same_solutions bytes checked other x y definitions h
  valid_passes (Unsat lines) h = false_passes lines h
  valid_passes (Unknown level cause) h = absurd h

  -- and definitions under which every number has room
  pub room_passes : (definitions : List Definition) → HaveRoomUnder other.script definitions → HaveRoomUnder checked.script definitions
  room_passes definitions room index clause is =
      let p = partner checked.script other.script (text_twins bytes checked other x y) index clause is in ap (breaking_wide definitions) p.normal ∙ room index p.other p.is

  -- and lines at whose values every number has room
  pub narrow_passes : (lines : List Line) → HaveRoom other.script lines → HaveRoom checked.script lines
  narrow_passes lines room number term wide = let one = wide_at_passes checked.script other.script (text_twins bytes checked other x y) lines number term wide in room number one.0 one.1

  -- what is wrong by the other is wrong by the one
  pub wrong_at_passes : (lines : List Line) (number : ℕ) → IsWrongAt other.script lines number → IsWrongAt checked.script lines number
  wrong_at_passes lines number wrong = wrong_passes other.script checked.script (text_twins bytes other checked y x) (text_twins bytes checked other x y) lines number wrong

  -- the verdict is on these lines
  pub said_beside : (nodes : ℕ) (text : List ℕ) (lines : List Line) (verdict : Verdict) → Judges nodes checked.script text verdict → Spells other.script.preds text (Unsat lines)
      → Judged nodes checked.script (Unsat lines) verdict
  said_beside nodes text lines verdict judges spells = said nodes checked.script text lines verdict judges (spelled_by text (Unsat lines) spells)

  bad_by : (text : List ℕ) (offset : ℕ) → IsBad other.script.preds text offset → IsBad checked.script.preds text offset
  bad_by text offset h = subst (λ (preds : List Pred). IsBad preds text offset) (sym (one_list bytes checked other x y)) h

  solved_passes : (answer : Answer) → IsSolvedBy checked.script answer → IsSolvedBy other.script answer
  solved_passes (Sat definitions) h = same_solutions bytes checked other x y definitions h
  solved_passes (Unsat lines) h = absurd h
  solved_passes (Unknown level cause) h = absurd h

  says_passes : (text : List ℕ) → Says checked.script text → Says other.script text
  says_passes text (sat rest is h) =
      sat rest is
      (record { accepted = λ offset bad. h.accepted offset (bad_by text offset bad); solved = λ answer spells. solved_passes answer (h.solved answer (spelled_by text answer spells)) })
  says_passes text (unsat rest is h) =
      unsat rest is
      (record {
        lines = h.lines;
        accepted = λ offset bad. h.accepted offset (bad_by text offset bad);
        spells = subst (λ (preds : List Pred). Spells preds text (Unsat h.lines)) (one_list bytes checked other x y) h.spells;
        alone = λ answer spells. h.alone answer (spelled_by text answer spells);
        derive = false_passes h.lines h.derive;
      })
  says_passes text (unknown h) =
      unknown
      (record { level = h.level; cause = h.cause; is = h.is; low = λ height within derived. h.low height within (same_derivable bytes other checked y x height None derived) })

pub said_of_each : (bytes text : List ℕ) (commands : List Command) (script : Script) → IsScript bytes commands → IsScriptOf commands script
    → (others : List Command) (other : Script) → IsScript bytes others → IsScriptOf others other → Says script text → Says other text
said_of_each bytes text commands script is spelled others other is_too spelled_too h =
    says_passes bytes (whole script) (whole other) (script_checked bytes commands script is spelled) (script_checked bytes others other is_too spelled_too) text h
