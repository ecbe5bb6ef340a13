-- What an answer about a formula tells.
use Rattle.std.specs.Prelude.{◌≡◌, ℕ, [], Result, Ok, Err}
use Rattle.term_tree.specs.declared.node.TermId.{TermId}
use Rattle.term_tree.specs.Arena.{Arena}
use Rattle.term_check.specs.declared.check.FormulaStop.{FormulaStop}
use Rattle.term_check.specs.declared.check.FormulaStop.TheVariants.{Memory as OutOfMemory, Bad}
use Rattle.term_check.specs.Term.{Term, IsTermAt}

abbrev pub TellsFormula : Result Term ℕ → Arena → Result TermId FormulaStop → Type 0
TellsFormula outcome arena (Ok id) = (term : Term) × (outcome ≡ Ok term) × IsTermAt arena [] term id.0
TellsFormula outcome arena (Err OutOfMemory) = Unit {0}
TellsFormula outcome arena (Err (Bad offset)) = outcome ≡ Err offset
