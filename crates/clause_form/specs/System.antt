-- Systems of Horn clauses over linear integer arithmetic, where guards are formulas over numbered variables and the
-- arguments of predicates are variables (Komuravelli, Gurfinkel and Chaki, "SMT-based model checking for recursive
-- programs", section 2), and what each of them keeps.
use Rattle.std.specs.Prelude.{ℕ, List, Bool, true, false, ◌==◌, ◌&&◌, nat_le, nat_lt, length, slice_get, Option, Some, None}
use Rattle.std.specs.List.{list_all}
use Rattle.base.specs.Limits.{most_arguments}
pub use Rattle.base.specs.Limits.{most_variables}
use Rattle.term_tree.specs.declared.sort.Sort.{Sort}
use Rattle.lin_atoms.specs.Linear.{is_short}
use Rattle.lin_atoms.specs.Truth.{is_below}
use Rattle.lin_atoms.specs.declared.lit.Lit.{Lit}
use Rattle.lin_atoms.specs.declared.lit.Lit.TheVariants.{Le, Eq, Div, NDiv}
use Rattle.lin_atoms.specs.declared.form.Form.{Form}
use Rattle.lin_atoms.specs.declared.form.Form.TheOpen.{Form-F}
use Rattle.lin_atoms.specs.declared.form.Form.TheFolds.{fold-Form}
use Rattle.clause_form.specs.declared.atom.Atom.{Atom}
use Rattle.clause_form.specs.declared.clause.Clause.{Clause}

-- the clauses, and the sorts of each predicate's arguments
pub record Clauses : Type 0 where
  pub clauses : List Clause
  pub preds : List (List Sort)

-- the predicate is there, with this many arguments, at most 256
abbrev pub has_arguments : Option (List Sort) → List ℕ → Bool
has_arguments None args = false
has_arguments (Some sorts) args = (length args == length sorts) && nat_le (length args) most_arguments

-- its arguments are variables below n
abbrev pub is_atom : List (List Sort) → ℕ → Atom → Bool
is_atom preds n atom = has_arguments (slice_get preds atom.pred) atom.args && list_all (λ v. nat_lt v n) atom.args

abbrev pub is_head : List (List Sort) → ℕ → Option Atom → Bool
is_head preds n None = true
is_head preds n (Some atom) = is_atom preds n atom

-- the constant of a divisibility is short
abbrev pub has_short_in_guard : Lit → Bool
has_short_in_guard (Le lin) = true
has_short_in_guard (Eq lin) = true
has_short_in_guard (Div d lin) = is_short lin.constant
has_short_in_guard (NDiv d lin) = is_short lin.constant

abbrev pub guard_step : Form-F Bool → Bool
guard_step Form-F.True = true
guard_step Form-F.False = true
guard_step (Form-F.Lit lit) = has_short_in_guard lit
guard_step (Form-F.And parts) = list_all (λ b. b) parts
guard_step (Form-F.Or parts) = list_all (λ b. b) parts

abbrev pub has_short_guard : Form → Bool
has_short_guard = fold-Form Bool guard_step

-- a clause over these predicates: it has at most 2,048 variables, of which the first are the assertion's own, and names
-- no others
abbrev pub is_clause : List (List Sort) → Clause → Bool
is_clause preds clause =
    nat_le clause.user (length clause.sorts) && nat_le (length clause.sorts) most_variables && list_all (is_atom preds (length clause.sorts)) clause.atoms
    && is_head preds (length clause.sorts) clause.head && is_below (length clause.sorts) clause.guard && has_short_guard clause.guard

abbrev pub are_clauses : List (List Sort) → List Clause → Bool
are_clauses preds clauses = list_all (is_clause preds) clauses

abbrev pub is_system : Clauses → Bool
is_system system = are_clauses system.preds system.clauses
