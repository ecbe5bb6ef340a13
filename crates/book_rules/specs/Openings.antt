-- The opening of a later book: the facts of books before it, the root alone, no lemma, and N = 0; over a system whose first
-- predicates and clauses are those of the systems before.
use Rattle.std.specs.Prelude.{◌≡◌, ℕ, List, ◌++◌}
use Rattle.term_tree.specs.declared.sort.Sort.{Sort}
use Rattle.clause_form.specs.System.{Clauses}
use Rattle.clause_form.specs.declared.clause.Clause.{Clause}
use Rattle.book_rules.specs.State.{Fact, State, opening}

abbrev pub opening_with : List Fact → ℕ → State
opening_with facts units = record (opening units) { facts = facts }

-- the later system has the earlier one's predicates and clauses, in their places, and more behind them
pub record IsLater (earlier later : Clauses) : Type 0 where
  pub more_preds : List (List Sort)
  pub preds : earlier.preds ++ more_preds ≡ later.preds
  pub more_clauses : List Clause
  pub clauses : earlier.clauses ++ more_clauses ≡ later.clauses
