-- What a clause of a system keeps, part by part.
use Rattle.std.specs.Prelude.{◌≡◌, ◌≤◌, ℕ, List, length, slice_get, Some, true, nat_lt}
use Rattle.std.specs.List.{list_all}
use Rattle.base.specs.Limits.{most_arguments}
use Rattle.term_tree.specs.declared.sort.Sort.{Sort}
use Rattle.lin_atoms.specs.Truth.{is_below}
use Rattle.clause_form.specs.declared.atom.Atom.{Atom}
use Rattle.clause_form.specs.declared.clause.Clause.{Clause}
use Rattle.clause_form.specs.System.{most_variables, is_atom, is_head, has_short_guard}

-- a clause over these predicates
pub record Keeps (preds : List (List Sort)) (clause : Clause) : Type 0 where
  pub own : clause.user ≤ length clause.sorts
  pub few : length clause.sorts ≤ most_variables
  pub atoms : list_all (is_atom preds (length clause.sorts)) clause.atoms ≡ true
  pub head : is_head preds (length clause.sorts) clause.head ≡ true
  pub below : is_below (length clause.sorts) clause.guard ≡ true
  pub short : has_short_guard clause.guard ≡ true

-- an atom over these predicates and n variables
pub record KeepsAtom (preds : List (List Sort)) (n : ℕ) (atom : Atom) : Type 0 where
  pub sorts : List Sort
  pub there : slice_get preds atom.pred ≡ Some sorts
  pub each : length atom.args ≡ length sorts
  pub few : length atom.args ≤ most_arguments
  pub below : list_all (λ v. nat_lt v n) atom.args ≡ true
