-- Steps of a derivation as the lines of an answer: steps and assertions are numbered from 1.
use Rattle.std.specs.Prelude.{ℕ, suc, List, [], ◌∷◌, map, option_map}
use Rattle.term_tree.specs.declared.scalar.Value.{Value}
use Rattle.horn_shape.specs.Derivation.{Step}
use Rattle.horn_shape.specs.Instance.{GroundAtom}
use Rattle.clause_form.specs.System.{Clauses}
use Rattle.book_rules.specs.State.{Fact}
use Rattle.answer_text.specs.declared.answer.Line.{Line}
use Rattle.cert_derivations.specs.Steps.{script_steps}

-- a predicate with its values
abbrev pub line_head : GroundAtom → ℕ × List Value
line_head atom = (atom.pred, atom.values)

-- the step as the line of that number
abbrev pub line_of : ℕ → Step → Line
line_of number s =
    record { number = number; assertion = suc s.assertion; values = s.values; premises = map (λ p. suc p) s.premises; head = option_map line_head s.conclusion }

-- one after another, from that number on
abbrev pub lines_from : ℕ → List Step → List Line
lines_from number [] = []
lines_from number (s ∷ steps) = line_of number s ∷ lines_from (suc number) steps

-- the steps as lines of an answer, numbered from 1 in their order
abbrev pub lines_of : List Step → List Line
lines_of steps = lines_from 1 steps

-- the lines of the facts of these numbers
abbrev pub fact_lines : Clauses → List Fact → List ℕ → List Line
fact_lines sys facts among = lines_of (script_steps sys facts among)
