-- What a token says of a system of clauses: a query that no point satisfies, an instance, or what keeps a lemma from
-- being lifted (Hoder and Bjorner, "Generalized property directed reachability", section 3; Komuravelli, Gurfinkel and
-- Chaki, "SMT-based model checking for recursive programs", section 4). Each is a relation between the token's own
-- parts and the clauses, so it holds of equal tokens and of equal systems.
use Rattle.std.specs.Prelude.{◌≡◌, ℕ, ℤ, List, slice_get, Option, Some, None, is_some, Bool, true, false, ◌&&◌}
use Rattle.std.specs.List.{list_all}
use Rattle.base.specs.Widths.{is_short}
use Rattle.lin_atoms.specs.Truth.{truth}
use Rattle.lin_atoms.specs.declared.lit.Lit.{Lit}
use Rattle.farkas_proof.specs.Kept.{form_of}
use Rattle.refutation_trees.specs.KeptEvidence.{given_form}
use Rattle.clause_form.specs.System.{Clauses}
use Rattle.clause_form.specs.declared.clause.Clause.{Clause}
use Rattle.chc_tokens.specs.declared.goal.Goal.{Goal}
use Rattle.chc_tokens.specs.declared.goal.Goal.TheVariants.{Query, Holds}
use Rattle.chc_tokens.specs.declared.used.Used.{Used}
use Rattle.chc_tokens.specs.declared.why.Why.{Why}
use Rattle.chc_tokens.specs.declared.why.Why.TheVariants.{Broken, Unknown}
use Rattle.chc_tokens.specs.declared.refuting.Shown.{Shown}
use Rattle.chc_tokens.specs.declared.seeing.Seen.{Seen}
use Rattle.chc_tokens.specs.declared.keeping.NoLift.{NoLift}
use Rattle.chc_tokens.specs.Instances.{accepts, token_body_at, token_head_at, is_broken, is_instance_of}
use Rattle.chc_tokens.specs.Queries.{has_places, query_at}
use Rattle.chc_tokens.specs.Kept.{kept_lemma, kept_why, seen_clause, seen_point, shown_clause, shown_goal, shown_proof, shown_used}

-- its proof is of the form of its query
abbrev pub IsShownToken : Clauses → Shown → Type 0
IsShownToken sys shown = query_at sys (shown_clause shown) (shown_goal shown) (shown_used shown) ≡ Some (form_of (shown_proof shown))

-- whether a used lemma accepts the tuple of its atom at a point
abbrev pub is_passed : List ℤ → Clause → Used → Bool
is_passed point clause used = accepts used.lemma (slice_get (token_body_at point clause) used.atom)

-- whether the head's tuple meets the goal: it satisfies the lemma; nothing meets a query
abbrev pub token_meets : Goal → Option (ℕ × List ℤ) → Bool
token_meets Query head = false
token_meets (Holds lemma) head = accepts lemma head

-- wherever the guard holds and each used lemma accepts its atom's tuple, the head's tuple satisfies the goal's lemma;
-- for a query there is no such point
abbrev pub Shows : Clauses → ℕ → Goal → List Used → Type 0
Shows sys n goal used =
    (clause : Clause) → slice_get sys.clauses n ≡ Some clause → (point : List ℤ) → truth point clause.guard ≡ true
    → list_all (is_passed point clause) used ≡ true → token_meets goal (token_head_at point clause) ≡ true

-- it is an instance of its clause, and each value is below 2^63 in magnitude
abbrev pub is_seen : Clauses → Seen → Bool
is_seen sys seen = is_instance_of sys (seen_clause seen) (seen_point seen) && list_all is_short (seen_point seen)

-- whether the head of a clause is there, with each place of the lemma
abbrev pub fits_head : Option Clause → List Lit → Bool
fits_head None lemma = false
fits_head (Some clause) lemma = has_places clause.head lemma

-- whether the head's tuple at a point breaks the lemma
abbrev pub breaks_in : Option Clause → List ℤ → List Lit → Bool
breaks_in None point lemma = false
breaks_in (Some clause) point lemma = is_broken lemma (token_head_at point clause)

abbrev pub breaks : Clauses → Seen → List Lit → Bool
breaks sys seen lemma = breaks_in (slice_get sys.clauses (seen_clause seen)) (seen_point seen) lemma

-- an instance whose head's tuple breaks the lemma, or evidence that the query whether there is one was given up
abbrev pub IsKept : Clauses → List Lit → Why → Type 0
IsKept sys lemma (Broken seen) = (is_seen sys seen ≡ true) × (fits_head (slice_get sys.clauses (seen_clause seen)) lemma ≡ true) × (breaks sys seen lemma ≡ true)
IsKept sys lemma (Unknown clause used evidence) = query_at sys clause (Holds lemma) used ≡ Some (given_form evidence)

abbrev pub IsNoLift : Clauses → NoLift → Type 0
IsNoLift sys no_lift = IsKept sys (kept_lemma no_lift) (kept_why no_lift)

-- what `no_lift` may be asked: the instance is one of the system's, or there is such a query
abbrev pub MayKeep : Clauses → List Lit → Why → Type 0
MayKeep sys lemma (Broken seen) = (is_seen sys seen ≡ true) × (fits_head (slice_get sys.clauses (seen_clause seen)) lemma ≡ true)
MayKeep sys lemma (Unknown clause used evidence) = is_some (query_at sys clause (Holds lemma) used) ≡ true

-- an instance whose head's tuple satisfies the lemma
abbrev pub IsNotBroken : Clauses → List Lit → Why → Type 0
IsNotBroken sys lemma (Broken seen) = breaks sys seen lemma ≡ false
IsNotBroken sys lemma (Unknown clause used evidence) = ⊥

-- evidence of another form than the query's
abbrev pub IsOther : Clauses → List Lit → Why → Type 0
IsOther sys lemma (Broken seen) = ⊥
IsOther sys lemma (Unknown clause used evidence) = query_at sys clause (Holds lemma) used ≡ Some (given_form evidence) → ⊥
