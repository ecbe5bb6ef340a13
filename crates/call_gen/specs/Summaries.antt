-- What is printed of a generated script: on how many facts false rests, and how high it is.
use Rattle.std.specs.Prelude.{◌≡◌, ◌<◌, ℕ, List, ◌++◌, length, take, codes, decimal, Some, None}
use Rattle.std.specs.declared.option.Option.{Option}
use Rattle.outside_io.specs.Bytes.{Appends}
use Rattle.term_tree.specs.declared.refusal.Checked.{Checked}
use Rattle.term_tree.specs.declared.script.Script.{Script}
use Rattle.clause_gen.specs.Generated.{generated_script}
use Rattle.derivations.specs.Facts.{AreSteps, height_of}
use Rattle.book_rules.specs.declared.end.End.{End}
use Rattle.book_rules.specs.declared.end.End.TheVariants.{Unsat, Sat, Spent, Stalled}
use Rattle.book_rules.specs.Legal.{end}
use Rattle.book_rules.specs.Walks.{AllOf}
use Rattle.step_rules.specs.Views.{facts_of}
use Rattle.chc_core.specs.Contents.{Contents}
use Rattle.chc_core.specs.Views.{state_of}
use Rattle.cert_derivations.specs.Claims.{DeriveFalse}
use Rattle.cert_derivations.specs.Lines.{fact_lines}
use Rattle.book_loop.specs.Runs.{IsOwn}
use Rattle.book_answers.specs.Answers.{HasNoLowFalse, HasText, IsBookOf}
use Rattle.call_words.specs.Words.{default_nodes, default_units}
use Rattle.book_answers.specs.Wanting.{wanting_text}

-- the generated script, of which nothing is refused
abbrev pub generated : ℕ → ℕ → Checked
generated depth seed = record { script = generated_script depth seed; stop = None }

-- unsat steps S height H
abbrev pub summary_text : ℕ → ℕ → List ℕ
summary_text steps height = codes "unsat steps " ++ decimal steps ++ codes " height " ++ decimal height ++ codes "\n"

-- what is printed at an end: of false, the number of the facts on which it rests, itself among them, which derive it by the
-- script's clauses, and its height; else what `solve` prints
abbrev pub HasSummary : Script → Contents → End → List ℕ → Type 0
HasSummary script b (Unsat fact) text =
    (steps : List ℕ) × AreSteps b.facts fact steps × (text ≡ summary_text (length steps) (height_of b.facts fact))
    × DeriveFalse script (fact_lines b.system (facts_of b.facts) steps)
HasSummary script b (Sat level) text = HasText script b (Sat level) text
HasSummary script b (Spent units) text = HasText script b (Spent units) text
HasSummary script b Stalled text = HasText script b Stalled text

-- a book over the clauses of a script, which was given these units, in whose journal evidence that counts inner nodes counts so
-- many of them, and no derivation of false is as low as its closed level
pub record IsSearchedWith (checked : Checked) (units nodes : ℕ) (b : Contents) : Type 0 where
  pub of : IsBookOf checked b
  pub given : b.given ≡ units
  pub own : AllOf (IsOwn nodes) b.journal
  pub level : HasNoLowFalse checked.script b.level

-- such a book that has ended, and what is printed of it
pub record IsSummed (checked : Checked) (units nodes : ℕ) (b : Contents) (text : List ℕ) : Type 0 where
  pub book : IsSearchedWith checked units nodes b
  pub ended_by : End
  pub ended : end (state_of b) ≡ Some ended_by
  pub summary : HasSummary checked.script b ended_by text

-- a book over the clauses of the generated script, searched with the units and inner nodes of a call of `solve` that gives none
abbrev pub IsGeneratedBook : ℕ → ℕ → Contents → Type 0
IsGeneratedBook depth seed b = IsSearchedWith (generated depth seed) default_units default_nodes b

-- and what is printed of one that has ended
abbrev pub IsGeneratedSummary : ℕ → ℕ → Contents → List ℕ → Type 0
IsGeneratedSummary depth seed b text = IsSummed (generated depth seed) default_units default_nodes b text

-- the summary is written: the sink holds the summary of the book's end behind what it held
pub record Summarises (depth seed : ℕ) (book : Option Contents) (old new : Option (List ℕ)) : Type 0 where
  pub b : Contents
  pub book_is : book ≡ Some b
  pub text : List ℕ
  pub summary : IsGeneratedSummary depth seed b text
  pub held : Appends text old new

-- the text that the call was to write
pub data IsMeantToSum (depth seed : ℕ) (book : Option Contents) (text : List ℕ) : Type 0 where
  summary : (b : Contents) → book ≡ Some b → IsGeneratedSummary depth seed b text → IsMeantToSum depth seed book text
  memory : text ≡ wanting_text book → IsMeantToSum depth seed book text

-- the sink has failed: a prefix of the text that was meant is held, and not all of it
pub record WritesPartOfSummary (depth seed : ℕ) (book : Option Contents) (old new : Option (List ℕ)) : Type 0 where
  pub text : List ℕ
  pub meant : IsMeantToSum depth seed book text
  pub count : ℕ
  pub part : count < length text
  pub held : Appends (take count text) old new
