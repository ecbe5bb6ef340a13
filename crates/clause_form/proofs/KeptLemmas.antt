-- From the tests of a system to what its clauses keep.
use Rattle.std.proofs.Common.{◌≡◌, ◌≤◌, ℕ, List, true, length, slice_get, Option, Some, None, refl, ◌==◌, nat_le, nat_lt, arith}
use Rattle.std.specs.List.{list_all}
use Rattle.std.proofs.lemmas.Bool.Decides.{nat_tests}
use Rattle.term_tree.specs.declared.sort.Sort.{Sort}
use Rattle.term_tree.proofs.Public.{both_true}
use Rattle.lin_atoms.specs.Truth.{is_below}
use Rattle.clause_form.specs.declared.atom.Atom.{Atom}
use Rattle.clause_form.specs.declared.clause.Clause.{Clause}
use Rattle.clause_form.specs.System.{is_atom, is_head, is_clause, has_arguments, has_short_guard}
use Rattle.clause_form.specs.Kept.{Keeps, KeepsAtom}

le_of : (m n : ℕ) → nat_le m n ≡ true → m ≤ n
le_of m n h = grind (arith, nat_tests)

eq_of : (m n : ℕ) → (m == n) ≡ true → m ≡ n
eq_of m n h = grind (arith, nat_tests)

-- what a clause that passes the test keeps
pub keeps : (preds : List (List Sort)) (clause : Clause) → is_clause preds clause ≡ true → Keeps preds clause
keeps preds clause h =
    let n : ℕ = length clause.sorts in
    let e = both_true _ (has_short_guard clause.guard) h in
    let d = both_true _ (is_below n clause.guard) e.0 in
    let c = both_true _ (is_head preds n clause.head) d.0 in
    let b = both_true _ (list_all (is_atom preds n) clause.atoms) c.0 in
    let a = both_true (nat_le clause.user n) (nat_le n 2048) b.0 in
    record { own = le_of _ _ a.0; few = le_of _ _ a.1; atoms = b.1; head = c.1; below = d.1; short = e.1 }

arguments : (preds : List (List Sort)) (n : ℕ) (atom : Atom) (found : Option (List Sort)) → slice_get preds atom.pred ≡ found
    → has_arguments found atom.args ≡ true → list_all (λ v. nat_lt v n) atom.args ≡ true → KeepsAtom preds n atom
arguments preds n atom None is h below = absurd (cc)
arguments preds n atom (Some sorts) is h below =
    let both = both_true (length atom.args == length sorts) (nat_le (length atom.args) 256) h in
    record { sorts = sorts; there = is; each = eq_of _ _ both.0; few = le_of _ _ both.1; below = below }

-- and what each of its atoms does
pub keeps_atom : (preds : List (List Sort)) (n : ℕ) (atom : Atom) → is_atom preds n atom ≡ true → KeepsAtom preds n atom
keeps_atom preds n atom h =
    let both = both_true (has_arguments (slice_get preds atom.pred) atom.args) (list_all (λ v. nat_lt v n) atom.args) h in
    arguments preds n atom (slice_get preds atom.pred) refl both.0 both.1
