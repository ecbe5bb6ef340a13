-- One more line.
use Rattle.std.specs.Prelude.{◌≡◌, ℕ, suc, List, [], ◌++◌, length, slice_get, option_map}
use Rattle.std.specs.List.{cons_option, filter_map}
use Rattle.horn_shape.specs.Derivation.{Step}
use Rattle.clause_form.specs.System.{Clauses}
use Rattle.derivations.specs.declared.fact.Fact.{Fact as KeptFact}
use Rattle.book_rules.specs.State.{Fact}
use Rattle.answer_text.specs.declared.answer.Line.{Line}
use Rattle.step_rules.specs.Views.{new_fact}
use Rattle.cert_derivations.specs.Steps.{script_step}
use Rattle.cert_derivations.specs.Lines.{lines_from}

-- the step of a fact as it is kept; a step has no height
abbrev pub kept_step : Clauses → List ℕ → KeptFact → Step
kept_step sys among f = script_step sys among (new_fact [] f)

-- the fact's line was added where the fact is there: with the lines of what still comes they are as before with the fact first
abbrev pub HasAdded : Clauses → List Fact → List ℕ → ℕ → List Line → List Line → Type 0
HasAdded sys facts among n old new =
    (rest : List Step) → new ++ lines_from (suc (length new)) rest ≡ old ++ lines_from (suc (length old)) (cons_option (option_map (script_step sys among) (slice_get facts n)) rest)

-- the steps of the numbers that are left
abbrev pub steps_left : Clauses → List Fact → List ℕ → List ℕ → List Step
steps_left sys facts among left = filter_map (λ n. option_map (script_step sys among) (slice_get facts n)) left
