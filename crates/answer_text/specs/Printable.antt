-- The answers that are printed: models whose definitions are made of lemmas, and derivations in numbers that fit.
use Rattle.std.specs.Prelude.{◌≡◌, ℕ, ◌<◌, List, length, map, Option, Some, None, nat_abs}
use Rattle.std.specs.List.{AllByRecursion, enumerate_from}
use Rattle.base.specs.Widths.{short_limit}
use Rattle.term_tree.specs.declared.scalar.Value.{Value}
use Rattle.term_tree.specs.declared.scalar.Value.TheVariants.{Int, Bool as Truth}
use Rattle.term_tree.specs.declared.script.Pred.{Pred}
use Rattle.term_tree.specs.declared.definition.Definition.{Definition}
use Rattle.term_tree.specs.Solution.{DefinesEach}
use Rattle.term_check.specs.Spelling.{sorts_of}
use Rattle.answer_text.specs.declared.answer.Line.{Line}
use Rattle.answer_text.specs.declared.answer.Answer.{Answer}
use Rattle.answer_text.specs.declared.answer.Answer.TheVariants.{Sat, Unsat, Unknown}
use Rattle.answer_text.specs.Terms.{parameter_name}
use Rattle.answer_text.specs.AnswerTexts.{answer_text}
use Rattle.answer_text.specs.Lemmas.{IsDefiningTerm}

-- the parameters are x0, x1, .., and the term is made of lemmas
pub record IsMadeOfLemmas (preds : List Pred) (d : Definition) : Type 0 where
  pub names : map (λ name. name.bytes) d.params ≡ map (λ p. parameter_name p.0) (enumerate_from 0 (sorts_of preds d.pred))
  pub term : IsDefiningTerm d.terms.nodes (sorts_of preds d.pred) d.body

-- the number is below 2^63
abbrev pub IsShort : ℕ → Type 0
IsShort n = n < short_limit

-- an integer below 2^63 in magnitude, or any truth value
abbrev pub IsShortValue : Value → Type 0
IsShortValue (Int n) = IsShort (nat_abs n)
IsShortValue (Truth b) = Unit {0}

-- false, or a predicate that is there with as many values as it has arguments
abbrev pub IsConclusion : List Pred → Option (ℕ × List Value) → Type 0
IsConclusion preds None = Unit {0}
IsConclusion preds (Some head) = (head.0 < length preds) × (length head.1 ≡ length (sorts_of preds head.0)) × AllByRecursion IsShortValue head.1

-- its numbers are below 2^63, its values in magnitude too, and it concludes false or an atom over the predicates
pub record IsPrintableStep (preds : List Pred) (line : Line) : Type 0 where
  pub number : IsShort line.number
  pub assertion : IsShort line.assertion
  pub values : AllByRecursion IsShortValue line.values
  pub premises : AllByRecursion IsShort line.premises
  pub conclusion : IsConclusion preds line.head

-- a model that defines each predicate in order by lemmas, a derivation whose steps can all be printed, or any unknown
abbrev pub IsPrintable : List Pred → Answer → Type 0
IsPrintable preds (Sat definitions) = DefinesEach 0 preds definitions × AllByRecursion (IsMadeOfLemmas preds) definitions
IsPrintable preds (Unsat lines) = AllByRecursion (IsPrintableStep preds) lines
IsPrintable preds (Unknown level cause) = Unit {0}

-- the text is the one printed spelling of the answer
pub record IsAnswerText (preds : List Pred) (answer : Answer) (text : List ℕ) : Type 0 where
  pub printable : IsPrintable preds answer
  pub spelled : text ≡ answer_text preds answer
