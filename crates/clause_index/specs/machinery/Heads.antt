-- Lists of clauses by their heads, as they grow.
use Rattle.std.specs.Prelude.{◌≡◌, ℕ, ◌++◌, List, [], ◌∷◌, Bool, true, Option, None, Some, drop, length, nat_lt, slice_index_or, slice_set}
use Rattle.clause_form.specs.System.{Clauses}
use Rattle.clause_form.specs.declared.atom.Atom.{Atom}
use Rattle.clause_index.specs.Index.{numbers_from, numbers_of}
use Rattle.clause_index.specs.declared.heads.Heads.{Heads}

abbrev pub listed : Heads → Option ℕ → List ℕ
listed heads None = heads.queries
listed heads (Some pred) = slice_index_or heads.of.items pred []

-- there is a list for the head's predicate
abbrev pub is_listed : Heads → Option Atom → Bool
is_listed heads None = true
is_listed heads (Some atom) = nat_lt atom.pred (length heads.of.items)

-- a number is added to the list of its head
abbrev pub IsPlaced : Heads → Option Atom → ℕ → Heads → Type 0
IsPlaced old None n new = (new.queries ≡ old.queries ++ n ∷ []) × (new.of.items ≡ old.of.items)
IsPlaced old (Some atom) n new = (new.queries ≡ old.queries) × (new.of.items ≡ slice_set old.of.items atom.pred (slice_index_or old.of.items atom.pred [] ++ n ∷ []))

-- the clauses before number i are in the lists of their heads, and the others are to come
pub record Filled (sys : Clauses) (i : ℕ) (heads : Heads) : Type 0 where
  pub many : length heads.of.items ≡ length sys.preds
  pub each : (pred : Option ℕ) → listed heads pred ++ numbers_from pred i (drop i sys.clauses) ≡ numbers_of sys pred

-- all clauses are in the lists of their heads
abbrev pub AreListed : Clauses → Heads → Type 0
AreListed sys heads = (pred : Option ℕ) → listed heads pred ≡ numbers_of sys pred
