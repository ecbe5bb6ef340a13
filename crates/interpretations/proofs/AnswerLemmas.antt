-- Definitions that are made of lemmas can be printed, and their text is read back.
use Rattle.std.proofs.Common.{◌≡◌, ℕ, ◌+◌, ◌≤◌, List, [], ◌∷◌, length, arith}
use Rattle.std.specs.List.{AllByRecursion}
use Rattle.base.specs.Limits.{most_arguments}
use Rattle.term_tree.specs.declared.definition.Definition.{Definition}
use Rattle.term_tree.specs.declared.script.Pred.{Pred}
use Rattle.term_tree.specs.declared.script.Script.{Script}
use Rattle.term_tree.specs.Solution.{DefinesEach}
use Rattle.horn_shape.specs.Clause.{IsLegalScript}
use Rattle.lemma_frames.specs.declared.framed.Framed.{Framed}
use Rattle.answer_text.specs.declared.answer.Answer.TheVariants.{Sat}
use Rattle.answer_text.specs.AnswerTexts.{answer_text}
use Rattle.answer_text.specs.Printable.{IsAnswerText, IsPrintable}
use Rattle.answer_text.specs.ReadBack.{AreNames, IsReadAs, IsStored}
use Rattle.answer_text.proofs.Public.{read_as}
use Rattle.interpretations.specs.Definitions.{AreDefinitionsOf}
use Rattle.interpretations.proofs.PrintLemmas.{all-made-of-lemmas, defines-each}

pub printable : (lemmas : List Framed) (k : ℕ) (preds : List Pred) (definitions : List Definition) → AreDefinitionsOf lemmas k 0 preds definitions → IsPrintable preds (Sat definitions)
printable lemmas k preds definitions made = (defines-each lemmas k 0 preds definitions made, all-made-of-lemmas lemmas k preds definitions made)

pub answers : (lemmas : List Framed) (k : ℕ) (preds : List Pred) (definitions : List Definition) (text : List ℕ) → AreDefinitionsOf lemmas k 0 preds definitions
    → text ≡ answer_text preds (Sat definitions) → IsAnswerText preds (Sat definitions) text
answers lemmas k preds definitions text made spelled = record { printable = printable lemmas k preds definitions made; spelled = spelled }

-- each stands in an arena, and has few parameters
stored : (lemmas : List Framed) (k number : ℕ) (preds : List Pred) (definitions : List Definition) → AreDefinitionsOf lemmas k number preds definitions → DefinesEach number preds definitions
    → AllByRecursion (λ (p : Pred). length p.args ≤ most_arguments) preds → AllByRecursion IsStored definitions
stored lemmas k number [] [] made each few = tt
stored lemmas k number [] (d ∷ definitions) made each few = absurd made
stored lemmas k number (p ∷ preds) [] made each few = absurd made
stored lemmas k number (p ∷ preds) (d ∷ definitions) (one, made) (is, many, each) (small, few) =
    (record { arena = one.arena; short = omega (arith, many, small) }, stored lemmas k (number + 1) preds definitions made each few)

pub read-back : (script : Script) (lemmas : List Framed) (k : ℕ) (definitions : List Definition) (text : List ℕ) → IsLegalScript script → AreNames script.preds
    → AreDefinitionsOf lemmas k 0 script.preds definitions → text ≡ answer_text script.preds (Sat definitions) → IsReadAs script.preds text definitions
read-back script lemmas k definitions text legal names made spelled =
    read_as script.preds definitions text names
    (stored lemmas k 0 script.preds definitions made (defines-each lemmas k 0 script.preds definitions made) legal.few_args)
    (answers lemmas k script.preds definitions text made spelled)
