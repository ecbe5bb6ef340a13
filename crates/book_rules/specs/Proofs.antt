-- The proofs that a Lemma, a Lift and a Raise bring: of a claim through each clause that needs one, under lemmas of a frame.
-- The claim is a lemma, or, without one, false.
use Rattle.std.specs.Prelude.{ℕ, ◌+◌, List, [], ◌∷◌, Bool, true, false, ◌&&◌, ◌||◌, not, nat_lt, ◌==◌, Option, Some, None, option_map, if◌then◌else◌, slice_get}
use Rattle.std.specs.List.{list_any, list_all}
use Rattle.lin_atoms.specs.declared.lit.Lit.{Lit}
use Rattle.clause_form.specs.System.{Clauses}
use Rattle.clause_form.specs.declared.atom.Atom.{Atom}
use Rattle.clause_form.specs.declared.clause.Clause.{Clause}
use Rattle.book_rules.specs.declared.by.By.{By}
use Rattle.book_rules.specs.declared.by.By.TheVariants.{Clause as ByClause}
use Rattle.book_rules.specs.Same.{same_cube}
use Rattle.book_rules.specs.Walks.{first_told, on, has}
use Rattle.book_rules.specs.Frames.{Lemma, Framed, same_lemma, frame_has}
use Rattle.book_rules.specs.Queries.{Used}
use Rattle.book_rules.specs.Steps.{Shown}

-- whether a clause's head is of the predicate, or false for none
abbrev pub is_head : Option ℕ → Option Atom → Bool
is_head None None = true
is_head None (Some atom) = false
is_head (Some pred) None = false
is_head (Some pred) (Some atom) = pred == atom.pred

abbrev pub pred_of : Option Lemma → Option ℕ
pred_of None = None
pred_of (Some lemma) = Some lemma.pred

abbrev pub same_goal : Option (List Lit) → Option Lemma → Bool
same_goal None None = true
same_goal None (Some lemma) = false
same_goal (Some cube) None = false
same_goal (Some cube) (Some lemma) = same_cube cube lemma.cube

abbrev pub is_empty : {A : Type 0} → List A → Bool
is_empty [] = true
is_empty (x ∷ xs) = false

-- F(0) is false, so there a clause with a body atom needs no proof
abbrev pub needs : ℕ → Option Lemma → Clause → Bool
needs k claim clause = is_head (pred_of claim) clause.head && (nat_lt 0 k || is_empty clause.atoms)

abbrev pub is_proof_of : Option Lemma → ℕ → Shown → Bool
is_proof_of claim number p = (p.clause == number) && same_goal p.goal claim

-- the first clause, of those from number n on, that needs a proof and has none
abbrev pub unshown_from : ℕ → Option Lemma → List Shown → ℕ → List Clause → Option By
unshown_from k claim proofs n [] = None
unshown_from k claim proofs n (clause ∷ clauses) = if not (needs k claim clause) || list_any (is_proof_of claim n) proofs then unshown_from k claim proofs (n + 1) clauses else Some (ByClause n)

abbrev pub unshown : Clauses → ℕ → Option Lemma → List Shown → Option By
unshown sys k claim proofs = unshown_from k claim proofs 0 sys.clauses

-- a used lemma is about the predicate of its atom
abbrev pub used_lemma : Clauses → ℕ → Used → Option Lemma
used_lemma sys number u = on (slice_get sys.clauses number) (λ (clause : Clause). option_map (λ (atom : Atom). record { pred = atom.pred; cube = u.cube }) (slice_get clause.atoms u.atom))

-- whether it may be used: it is in F(k), or the claim itself where that is allowed
abbrev pub may_use : Clauses → List Framed → ℕ → Option Lemma → ℕ → Used → Bool
may_use sys es k own number u = has (used_lemma sys number u) (λ lemma. frame_has es k lemma || has own (λ itself. same_lemma itself lemma))

abbrev pub all_may_use : Clauses → List Framed → ℕ → Option Lemma → ℕ → List Used → Bool
all_may_use sys es k own number used = list_all (may_use sys es k own number) used

-- the clause of the first proof that uses a lemma that it may not use
abbrev pub misused : Clauses → List Framed → ℕ → Option Lemma → List Shown → Option By
misused sys es k own proofs = first_told (λ (p : Shown). if all_may_use sys es k own p.clause p.used then None else Some (ByClause p.clause)) proofs
