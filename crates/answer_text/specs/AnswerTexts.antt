-- The one printed spelling of each answer.
use Rattle.std.specs.Prelude.{ℕ, List, [], ◌∷◌, ◌++◌, Option, Some, None, codes, decimal, slice_get}
use Rattle.std.specs.List.{flat_map, enumerate_from}
use Rattle.term_tree.specs.declared.sort.Sort.{Sort}
use Rattle.term_tree.specs.declared.sort.Sort.TheVariants.{Int, Bool}
use Rattle.term_tree.specs.declared.scalar.Value.{Value}
use Rattle.term_tree.specs.declared.script.Pred.{Pred}
use Rattle.term_tree.specs.declared.definition.Definition.{Definition}
use Rattle.term_check.specs.Spelling.{sorts_of}
use Rattle.answer_text.specs.declared.answer.Line.{Line}
use Rattle.answer_text.specs.declared.answer.Answer.{Answer}
use Rattle.answer_text.specs.declared.answer.Answer.TheVariants.{Sat, Unsat, Unknown}
use Rattle.answer_text.specs.Names.{name_text, value_text, after_spaces, spaced}
use Rattle.answer_text.specs.Terms.{parameter_name, term_text}
use Rattle.answer_text.specs.Lines.{level_text}

-- a number past the declarations names nothing
abbrev pub declared_name : Option Pred → List ℕ
declared_name None = []
declared_name (Some pred) = pred.name.bytes

-- the name of the predicate of that number, as it is printed
abbrev pub pred_text : List Pred → ℕ → List ℕ
pred_text preds number = name_text (declared_name (slice_get preds number))

-- the identifier of the sort, as SMT-LIB's theories Ints and Core have it
abbrev pub sort_text : Sort → List ℕ
sort_text Int = codes "Int"
sort_text Bool = codes "Bool"

-- (x0 Int) and the like, for the argument of that number
abbrev pub parameter_text : ℕ × Sort → List ℕ
parameter_text p = codes "(" ++ parameter_name p.0 ++ codes " " ++ sort_text p.1 ++ codes ")"

-- the sorted variables of a define-fun, one for each argument sort from x0 on, with one space between them
abbrev pub parameters_text : List Sort → List ℕ
parameters_text [] = []
parameters_text (sort ∷ sorts) = parameter_text (0, sort) ++ after_spaces parameter_text (enumerate_from 1 sorts)

-- a define-fun up to its term: the predicate's name, its parameters and the result sort Bool, with a space behind
abbrev pub definition_head : List Pred → ℕ → List ℕ
definition_head preds pred = codes "(define-fun " ++ pred_text preds pred ++ codes " (" ++ parameters_text (sorts_of preds pred) ++ codes ") Bool "

-- (define-fun name ((x0 sort) (x1 sort) ..) Bool term)
unfoldable pub definition_text : List Pred → Definition → List ℕ
definition_text preds d = definition_head preds d.pred ++ term_text d.terms.nodes d.body.0 ++ codes ")\n"

-- false, name or (name value ..)
abbrev pub atom_text : List ℕ → List Value → List ℕ
atom_text name [] = name
atom_text name (v ∷ values) = codes "(" ++ name ++ after_spaces value_text (v ∷ values) ++ codes ")"

-- the head of a step's instance as a ground atom, or false where its clause has no head
abbrev pub conclusion_text : List Pred → Option (ℕ × List Value) → List ℕ
conclusion_text preds None = codes "false"
conclusion_text preds (Some head) = atom_text (pred_text preds head.0) head.1

-- the opening of a step: its own number and that of its assertion, with no space behind
abbrev pub step_numbers : Line → List ℕ
step_numbers line = codes "(step " ++ decimal line.number ++ codes " " ++ decimal line.assertion

-- the middle of a step: the values of its clause's variables, and the numbers of the steps that it rests on
abbrev pub step_lists : Line → List ℕ
step_lists line = codes " (" ++ spaced value_text line.values ++ codes ") (" ++ spaced decimal line.premises ++ codes ") "

-- (step number assertion (value ..) (premise ..) conclusion)
abbrev pub step_text : List Pred → Line → List ℕ
step_text preds line = step_numbers line ++ step_lists line ++ conclusion_text preds line.head ++ codes ")\n"

-- all that is printed for an answer: sat with a model, unsat with a derivation, or unknown with the level and the cause
abbrev pub answer_text : List Pred → Answer → List ℕ
answer_text preds (Sat definitions) = codes "sat\n(\n" ++ flat_map (definition_text preds) definitions ++ codes ")\n"
answer_text preds (Unsat lines) = codes "unsat\n(derivation\n" ++ flat_map (step_text preds) lines ++ codes ")\n"
answer_text preds (Unknown level cause) = codes "unknown\n" ++ level_text level cause
