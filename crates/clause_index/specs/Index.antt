-- What a search reads of clauses again and again: guards as the integer solver starts from them, and the clauses with a head
-- (Hoder and Bjorner, "Generalized property directed reachability", section 3: the rules of a predicate are asked together).
use Rattle.std.specs.Prelude.{ℕ, ◌+◌, List, [], ◌∷◌, Option, if◌then◌else◌}
use Rattle.lin_atoms.specs.declared.lit.Lit.{Lit}
use Rattle.lin_atoms.specs.declared.form.Form.{Form}
use Rattle.clause_form.specs.System.{Clauses}
use Rattle.clause_form.specs.declared.clause.Clause.{Clause}
use Rattle.refutation_trees.specs.Flatten.{disjunctions, literals}
use Rattle.book_rules.specs.Proofs.{is_head}

-- a guard flattened: its conjunction's literals, and its disjunctions, which stay open
pub record Flat : Type 0 where
  pub lits : List Lit
  pub cases : List (List Form)

abbrev pub flat : Form → Flat
flat guard = record { lits = literals guard; cases = disjunctions guard }

abbrev pub flat_of : Clause → Flat
flat_of clause = flat clause.guard

-- the numbers, of clauses from number n on, of those whose head is of the predicate, or that have none
abbrev pub numbers_from : Option ℕ → ℕ → List Clause → List ℕ
numbers_from pred n [] = []
numbers_from pred n (clause ∷ clauses) = if is_head pred clause.head then n ∷ numbers_from pred (n + 1) clauses else numbers_from pred (n + 1) clauses

abbrev pub numbers_of : Clauses → Option ℕ → List ℕ
numbers_of sys pred = numbers_from pred 0 sys.clauses
