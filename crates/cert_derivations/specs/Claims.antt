-- What the lines of an unsat answer claim of a script: a derivation of false by its assertions.
use Rattle.std.specs.Prelude.{◌≡◌, ◌≤◌, ℕ, zero, suc, List, [], ◌∷◌, ◌++◌, map, true, Option, Some, None, Ok, option_map, slice_get}
use Rattle.std.specs.List.{All}
use Rattle.term_tree.specs.declared.refusal.Checked.{Checked}
use Rattle.term_tree.specs.declared.scalar.Value.{Value}
use Rattle.term_tree.specs.declared.script.Script.{Script}
use Rattle.term_tree.specs.Arena.{IsArena}
use Rattle.horn_shape.specs.declared.clause.HornClause.{HornClause}
use Rattle.horn_shape.specs.Clause.{IsClauseOf, IsLegalScript}
use Rattle.horn_shape.specs.Derivation.{IsDerivation, Step}
use Rattle.horn_shape.specs.Instance.{IsInstance, conclusion_of, premises_of}
use Rattle.clause_form.specs.System.{Clauses}
use Rattle.clause_normal.specs.Reading.{system_reading}
use Rattle.book_rules.specs.Kept.{AreRecorded}
use Rattle.book_rules.specs.State.{Fact}
use Rattle.book_rules.specs.Values.{fact_is_short}
use Rattle.book_rules.specs.Walks.{AllOf}
use Rattle.answer_text.specs.declared.answer.Line.{Line}
use Rattle.cert_derivations.specs.Steps.{AreClosed}
use Rattle.cert_derivations.specs.Lines.{line_head, lines_of}

-- they are the lines of a derivation by the script's clauses, of which the last step concludes false
pub record DeriveFalse (script : Script) (lines : List Line) : Type 0 where
  pub steps : List Step
  pub last : Step
  pub said : lines ≡ lines_of (steps ++ last ∷ [])
  pub derivation : IsDerivation script (steps ++ last ∷ [])
  pub is_false : last.conclusion ≡ None

-- what the line of that number concludes, where it is there
abbrev pub concluded_in : List Line → ℕ → Option (Option (ℕ × List Value))
concluded_in lines zero = None
concluded_in lines (suc place) = option_map (λ line. line.head) (slice_get lines place)

-- the line at that place, from 0: its number, the assertion and its clause, values of the clause's variables that are of their
-- sorts and meet its guards, an earlier line for each body atom, which concludes it, and the head as the conclusion
pub record IsLine (script : Script) (lines : List Line) (place : ℕ) (line : Line) : Type 0 where
  pub number : line.number ≡ suc place
  pub assertion : ℕ
  pub names : line.assertion ≡ suc assertion
  pub clause : HornClause
  pub clause_is : IsClauseOf script assertion clause
  pub instance : IsInstance script clause line.values
  pub earlier : All (λ p. (1 ≤ p) × (p ≤ place)) line.premises
  pub premises : map (concluded_in lines) line.premises ≡ map (λ atom. Some (Some (line_head atom))) (premises_of script clause line.values)
  pub conclusion : line.head ≡ option_map line_head (conclusion_of script clause line.values)

-- each line is right by itself, and the last concludes false
pub record AreLines (script : Script) (lines : List Line) : Type 0 where
  pub each : (place : ℕ) (line : Line) → slice_get lines place ≡ Some line → IsLine script lines place line
  pub before : List Line
  pub last : Line
  pub ends : lines ≡ before ++ last ∷ []
  pub is_false : last.head ≡ None

-- facts over the system of a legal script: recorded, and with short values
pub record AreFactsOf (checked : Checked) (sys : Clauses) (facts : List Fact) : Type 0 where
  pub arena : IsArena checked.script.terms.nodes
  pub legal : IsLegalScript checked.script
  pub system : system_reading checked ≡ Ok sys
  pub recorded : AreRecorded sys [] facts
  pub short : AllOf (λ (f : Fact). fact_is_short f ≡ true) facts

-- each of the facts of these numbers stands behind its premises, and the last is false
pub record EndInFalse (facts : List Fact) (among : List ℕ) : Type 0 where
  pub closed : AreClosed facts among
  pub before : List ℕ
  pub last : ℕ
  pub ends : among ≡ before ++ last ∷ []
  pub fact : Fact
  pub there : slice_get facts last ≡ Some fact
  pub is_false : fact.conclusion ≡ None
