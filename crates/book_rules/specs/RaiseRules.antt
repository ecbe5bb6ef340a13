-- The rules of Raise, by their numbers: what breaks each of them, if anything.
use Rattle.std.specs.Prelude.{ℕ, ◌+◌, List, [], ◌∷◌, Bool, ◌&&◌, nat_lt, Option, Some, None, if◌then◌else◌, slice_get}
use Rattle.clause_form.specs.System.{Clauses}
use Rattle.clause_form.specs.declared.clause.Clause.{Clause}
use Rattle.book_rules.specs.declared.by.By.{By}
use Rattle.book_rules.specs.declared.by.By.TheVariants.{Lemma as ByLemma, Step as ByStep}
use Rattle.book_rules.specs.Same.{same_cube}
use Rattle.book_rules.specs.Walks.{first_told, on, has, or_else}
use Rattle.book_rules.specs.Instances.{body_at}
use Rattle.book_rules.specs.Frames.{Lemma, Framed}
use Rattle.book_rules.specs.OpenRules.{shut_out}
use Rattle.book_rules.specs.Proofs.{unshown, misused, is_head, all_may_use}
use Rattle.book_rules.specs.State.{State}
use Rattle.book_rules.specs.Steps.{RaiseStep, NoLift, Why}

-- 40: each clause with head false has a proof of the query
abbrev pub rule_40 : Clauses → State → RaiseStep → Option By
rule_40 sys s r = unshown sys s.level None r.closed

-- 41: each used lemma is in F(N)
abbrev pub rule_41 : Clauses → State → RaiseStep → Option By
rule_41 sys s r = misused sys s.lemmas s.level None r.closed

abbrev pub why_clause : Why → ℕ
why_clause (Why.Broken seen) = seen.clause
why_clause (Why.Unknown clause used left) = clause

-- a NoLift is of a lemma where it is of its cube and through a clause of its head
abbrev pub is_no_lift_of : Clauses → Lemma → NoLift → Bool
is_no_lift_of sys lemma k = same_cube k.cube lemma.cube && has (slice_get sys.clauses (why_clause k.why)) (λ (clause : Clause). is_head (Some lemma.pred) clause.head)

-- the lemmas of a level below this one, each with its number, of those from number n on
abbrev pub below_from : ℕ → ℕ → List Framed → List (ℕ × Framed)
below_from level n [] = []
below_from level n (e ∷ es) = if nat_lt e.level level then (n, e) ∷ below_from level (n + 1) es else below_from level (n + 1) es

abbrev pub below : State → List (ℕ × Framed)
below s = below_from s.level 0 s.lemmas

-- 42: each lemma of a level of at most N - 1 has its NoLift in its place, and none is left over
abbrev pub in_places : Clauses → List (ℕ × Framed) → List NoLift → Option By
in_places sys [] [] = None
in_places sys [] (k ∷ kept) = Some ByStep
in_places sys (e ∷ es) [] = Some (ByLemma e.0)
in_places sys (e ∷ es) (k ∷ kept) = if is_no_lift_of sys (e.1).lemma k then in_places sys es kept else Some (ByLemma e.0)

abbrev pub rule_42 : Clauses → State → RaiseStep → Option By
rule_42 sys s r = in_places sys (below s) r.kept

-- what is told of the first lemma and its NoLift of which something is told
abbrev pub first_pair : ((ℕ × Framed) → Why → Option By) → List (ℕ × Framed) → List NoLift → Option By
first_pair tell [] kept = None
first_pair tell (e ∷ es) [] = None
first_pair tell (e ∷ es) (k ∷ kept) = or_else (tell e k.why) (first_pair tell es kept)

abbrev pub seen_outside : Clauses → State → (ℕ × Framed) → Why → Option By
seen_outside sys s e (Why.Broken seen) = on (slice_get sys.clauses seen.clause) (λ (clause : Clause). first_told (shut_out s.lemmas (e.1).level) (body_at seen.point clause))
seen_outside sys s e (Why.Unknown clause used left) = None

-- 43: no lemma of F(the lemma's level) shuts out a body tuple of a NoLift's instance
abbrev pub rule_43 : Clauses → State → RaiseStep → Option By
rule_43 sys s r = first_pair (seen_outside sys s) (below s) r.kept

abbrev pub evidence_outside : Clauses → State → (ℕ × Framed) → Why → Option By
evidence_outside sys s e (Why.Broken seen) = None
evidence_outside sys s e (Why.Unknown clause used left) = if all_may_use sys s.lemmas (e.1).level None clause used then None else Some (ByLemma e.0)

-- 44: the evidence of a NoLift uses lemmas of F(the lemma's level) alone
abbrev pub rule_44 : Clauses → State → RaiseStep → Option By
rule_44 sys s r = first_pair (evidence_outside sys s) (below s) r.kept
