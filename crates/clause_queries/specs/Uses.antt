-- The lemmas of a frame on body atoms, and the clauses that are asked (Hoder and Bjorner, "Generalized property directed
-- reachability", section 3: the frame below on the body, and F(0) is false).
use Rattle.std.specs.Prelude.{◌≡◌, ◌+◌, ◌==◌, ◌&&◌, ◌||◌, ℕ, ℤ, List, [], ◌∷◌, ◌++◌, Bool, true, nat_le, nat_lt, Option, Some, slice_get, if◌then◌else◌}
use Rattle.std.specs.List.{All, Contains, list_all}
use Rattle.clause_form.specs.System.{Clauses}
use Rattle.clause_form.specs.declared.atom.Atom.{Atom}
use Rattle.clause_form.specs.declared.clause.Clause.{Clause}
use Rattle.lemma_frames.specs.declared.framed.Framed.{Framed}
use Rattle.chc_tokens.specs.Tokens.{is_passed}
use Rattle.chc_tokens.specs.declared.used.Used.{Used}
use Rattle.book_rules.specs.Proofs.{is_empty, is_head}

abbrev pub use_of : ℕ → Framed → Used
use_of number f = record { atom = number; lemma = f.lemma }

-- each lemma of F(k) on the predicate, on the atom of a number
abbrev pub uses_on : ℕ → ℕ → ℕ → List Framed → List Used
uses_on k number pred [] = []
uses_on k number pred (f ∷ fs) = if nat_le k f.level && (f.pred == pred) then use_of number f ∷ uses_on k number pred fs else uses_on k number pred fs

-- each lemma of F(k), on each atom of its predicate, where the atoms' numbers begin at n
abbrev pub uses_from : ℕ → List Framed → ℕ → List Atom → List Used
uses_from k fs n [] = []
uses_from k fs n (atom ∷ atoms) = uses_on k n atom.pred fs ++ uses_from k fs (n + 1) atoms

abbrev pub uses : ℕ → List Framed → Clause → List Used
uses k fs clause = uses_from k fs 0 clause.atoms

-- some of these, so that a body that they accept is in F(k): a lemma that others of them imply may be left out
pub record AreUses (k : ℕ) (fs : List Framed) (clause : Clause) (used : List Used) : Type 0 where
  pub each : All (Contains (uses k fs clause)) used
  pub enough : (point : List ℤ) → list_all (is_passed point clause) used ≡ true → list_all (is_passed point clause) (uses k fs clause) ≡ true

-- whether a clause is asked for tuples of the predicate, or for false, under F(k): at level 0 only without a body
abbrev pub is_asked : Option ℕ → ℕ → Clause → Bool
is_asked pred k clause = is_head pred clause.head && (nat_lt 0 k || is_empty clause.atoms)

-- a clause that is asked
pub record IsAskedAt (sys : Clauses) (pred : Option ℕ) (k : ℕ) (n : ℕ) : Type 0 where
  pub clause : Clause
  pub there : slice_get sys.clauses n ≡ Some clause
  pub asked : is_asked pred k clause ≡ true
