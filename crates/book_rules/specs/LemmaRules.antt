-- The rules of Lemma and of Lift, by their numbers: what breaks each of them, if anything.
use Rattle.std.specs.Prelude.{ℕ, List, ◌+◌, ◌-◌, Bool, ◌&&◌, nat_le, nat_lt, ◌==◌, Option, Some, None, if◌then◌else◌, slice_get}
use Rattle.clause_form.specs.System.{Clauses}
use Rattle.cube_forms.specs.Cubes.{cube_holds}
use Rattle.book_rules.specs.declared.by.By.{By}
use Rattle.book_rules.specs.declared.by.By.TheVariants.{Lemma as ByLemma, Obligation as ByObligation, Level as ByLevel, Step as ByStep}
use Rattle.book_rules.specs.Walks.{on}
use Rattle.book_rules.specs.Frames.{Lemma, Framed}
use Rattle.book_rules.specs.Proofs.{unshown, misused}
use Rattle.book_rules.specs.State.{Obligation, State, is_of, unless_live}
use Rattle.book_rules.specs.Steps.{LemmaStep, LiftStep, Shown}

-- what a step is asked for that adds a lemma at a level: the level is from 1 to N

abbrev pub unless_level : State → ℕ → Option By
unless_level s level = if nat_le 1 level && nat_le level s.level then None else Some (ByLevel s.level)

-- each clause of that head has a proof of this lemma
abbrev pub unproved : Clauses → Lemma → ℕ → List Shown → Option By
unproved sys lemma level proofs = unshown sys (level - 1) (Some lemma) proofs

-- each used lemma is in F(level - 1), or this lemma on its own predicate
abbrev pub unfounded : Clauses → List Framed → Lemma → ℕ → List Shown → Option By
unfounded sys es lemma level proofs = misused sys es (level - 1) (Some lemma) proofs

-- 10: the level is from 1 to N
abbrev pub rule_10 : State → LemmaStep → Option By
rule_10 s l = unless_level s l.level

-- 11: each clause of that head has a proof of this lemma
abbrev pub rule_11 : Clauses → LemmaStep → Option By
rule_11 sys l = unproved sys l.lemma l.level l.proofs

-- 12: each used lemma is in F(level - 1), or this lemma on its own predicate
abbrev pub rule_12 : Clauses → State → LemmaStep → Option By
rule_12 sys s l = unfounded sys s.lemmas l.lemma l.level l.proofs

-- 13: the target is live
abbrev pub rule_13 : State → LemmaStep → Option By
rule_13 s l = unless_live (slice_get s.obligations l.target)

-- whether a lemma of this level shuts the obligation's point out: of its predicate, and not of a lower level
abbrev pub closes : Lemma → ℕ → Obligation → Bool
closes lemma level o = is_of lemma.pred o.pred && nat_le o.level level && cube_holds o.point lemma.cube

-- 14: the target is of the lemma's predicate and of no higher level, and its point is excluded
abbrev pub rule_14 : State → LemmaStep → Option By
rule_14 s l = on (slice_get s.obligations l.target) (λ (o : Obligation). if closes l.lemma l.level o then None else Some (ByObligation l.target))

abbrev pub lifted_of : State → LiftStep → Option Framed
lifted_of s l = slice_get s.lemmas l.lemma

-- 30: the lemma is there, and of the level that it is lifted from
abbrev pub level_is : ℕ → ℕ → Option Framed → Option By
level_is number from None = Some ByStep
level_is number from (Some e) = if e.level == from then None else Some (ByLemma number)

abbrev pub rule_30 : State → LiftStep → Option By
rule_30 s l = level_is l.lemma l.from (lifted_of s l)

-- 31: the level above is at most N
abbrev pub rule_31 : State → LiftStep → Option By
rule_31 s l = if nat_lt s.level (l.from + 1) then Some (ByLevel s.level) else None

-- 32: each clause of that head has a proof of this lemma
abbrev pub rule_32 : Clauses → State → LiftStep → Option By
rule_32 sys s l = on (lifted_of s l) (λ (e : Framed). unshown sys l.from (Some e.lemma) l.proofs)

-- 33: each used lemma is in F(from)
abbrev pub rule_33 : Clauses → State → LiftStep → Option By
rule_33 sys s l = misused sys s.lemmas l.from None l.proofs
