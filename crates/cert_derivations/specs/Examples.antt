-- A derivation by hand: q, from it r at true and -2, and from that false; r at false and 5 stands by itself.
--
--   (assert q)
--   (assert (=> q (r true (- 2))))
--   (assert (forall ((b Bool) (x Int)) (=> (and (r b x) b (< x 0)) false)))
--   (assert (r false 5))
--
-- The arguments of r that are no variables have auxiliary variables. Guards are left out, since no step has them.
use Rattle.std.specs.Prelude.{ℕ, pos, negsuc, List, [], ◌∷◌, true, Option, Some, None}
use Rattle.term_tree.specs.declared.sort.Sort.TheVariants.{Int as IntSort, Bool as BoolSort}
use Rattle.term_tree.specs.declared.scalar.Value.TheVariants.{Int, Bool as Truth}
use Rattle.lin_atoms.specs.declared.form.Form.TheVariants.{True}
use Rattle.horn_shape.specs.Derivation.{Step}
use Rattle.clause_form.specs.System.{Clauses}
use Rattle.clause_form.specs.declared.atom.Atom.{Atom}
use Rattle.clause_form.specs.declared.clause.Clause.{Clause}
use Rattle.book_rules.specs.State.{Fact}

abbrev pub q : Atom
q = record { pred = 0; args = [] }

abbrev pub r : Atom
r = record { pred = 1; args = 0 ∷ 1 ∷ [] }

-- a clause over a Bool and an integer variable
abbrev pub over_two : ℕ → ℕ → List Atom → Option Atom → Clause
over_two assertion user atoms head = record { assertion = assertion; user = user; sorts = BoolSort ∷ IntSort ∷ []; atoms = atoms; guard = True; head = head }

abbrev pub small : Clauses
small =
    record {
      clauses = (record { assertion = 0; user = 0; sorts = []; atoms = []; guard = True; head = Some q }) ∷ over_two 1 0 (q ∷ []) (Some r) ∷ over_two 2 2 (r ∷ []) None ∷ over_two 3 0 [] (Some r) ∷ [];
      preds = [] ∷ (BoolSort ∷ IntSort ∷ []) ∷ [];
    }

abbrev pub small_facts : List Fact
small_facts =
    (record { conclusion = Some (0, []); clause = 0; point = []; premises = []; height = 1 })
    ∷ (record { conclusion = Some (1, pos 0 ∷ pos 5 ∷ []); clause = 3; point = pos 0 ∷ pos 5 ∷ []; premises = []; height = 1 })
    ∷ (record { conclusion = Some (1, pos 1 ∷ negsuc 1 ∷ []); clause = 1; point = pos 1 ∷ negsuc 1 ∷ []; premises = 0 ∷ []; height = 2 })
    ∷ (record { conclusion = None; clause = 2; point = pos 1 ∷ negsuc 1 ∷ []; premises = 2 ∷ []; height = 3 })
    ∷ []

-- (step 1 1 () () q), (step 2 2 () (1) (r true (- 2))) and (step 3 3 (true (- 2)) (2) false)
abbrev pub small_steps : List Step
small_steps =
    (record { assertion = 0; values = []; premises = []; conclusion = Some (record { pred = 0; values = [] }) })
    ∷ (record { assertion = 1; values = []; premises = 0 ∷ []; conclusion = Some (record { pred = 1; values = Truth true ∷ Int (negsuc 1) ∷ [] }) })
    ∷ (record { assertion = 2; values = Truth true ∷ Int (negsuc 1) ∷ []; premises = 1 ∷ []; conclusion = None })
    ∷ []
