-- The rules of Fact and of Derive, by their numbers: what breaks each of them, if anything. Both record what an instance
-- concludes, a Derive for no obligation; what both are asked for is said once.
use Rattle.std.specs.Prelude.{ℕ, List, [], ◌∷◌, Bool, true, false, ◌&&◌, Option, Some, None, option_map, if◌then◌else◌, slice_get}
use Rattle.clause_form.specs.System.{Clauses}
use Rattle.clause_form.specs.declared.clause.Clause.{Clause}
use Rattle.book_rules.specs.declared.by.By.{By}
use Rattle.book_rules.specs.declared.by.By.TheVariants.{Fact as ByFact, Obligation as ByObligation, Step as ByStep}
use Rattle.book_rules.specs.Walks.{first_number, on, has}
use Rattle.book_rules.specs.Instances.{Ground, body_at, head_at}
use Rattle.book_rules.specs.State.{Fact, Obligation, State, same_conclusion, holds, unless_live}
use Rattle.book_rules.specs.Steps.{DeriveStep, FactStep, Seen}

-- what an instance concludes: its head
abbrev pub concluded : Clauses → Seen → Option Ground
concluded sys seen = on (slice_get sys.clauses seen.clause) (λ (clause : Clause). head_at seen.point clause)

abbrev pub is_fact_of : List Fact → ℕ → Ground → Bool
is_fact_of facts premise a = has (slice_get facts premise) (λ (f : Fact). same_conclusion f.conclusion (Some a))

-- a recorded fact for each body atom, in order
abbrev pub are_facts_of : List Fact → List ℕ → List Ground → Bool
are_facts_of facts [] [] = true
are_facts_of facts [] (a ∷ body) = false
are_facts_of facts (p ∷ premises) [] = false
are_facts_of facts (p ∷ premises) (a ∷ body) = is_fact_of facts p a && are_facts_of facts premises body

-- the premises are as many as the instance's body atoms, each is there, and each is its body atom's tuple
abbrev pub unless_body : Clauses → State → Seen → List ℕ → Option By
unless_body sys s seen premises = if has (slice_get sys.clauses seen.clause) (λ (clause : Clause). are_facts_of s.facts premises (body_at seen.point clause)) then None else Some ByStep

-- what the instance concludes isn't recorded
abbrev pub if_recorded : Clauses → State → Seen → Option By
if_recorded sys s seen = option_map ByFact (first_number (λ (old : Fact). same_conclusion old.conclusion (concluded sys seen)) s.facts)

-- 20: the premises are the instance's body
abbrev pub rule_20 : Clauses → State → FactStep → Option By
rule_20 sys s f = unless_body sys s f.seen f.premises

-- 21: the conclusion isn't recorded
abbrev pub rule_21 : Clauses → State → FactStep → Option By
rule_21 sys s f = if_recorded sys s f.seen

-- 22: the target is live; it may be missing for false
abbrev pub target_live : State → Option ℕ → Option Ground → Option By
target_live s None None = None
target_live s None (Some a) = Some ByStep
target_live s (Some target) conclusion = unless_live (slice_get s.obligations target)

abbrev pub rule_22 : Clauses → State → FactStep → Option By
rule_22 sys s f = target_live s f.target (concluded sys f.seen)

-- 23: a target that is given holds the conclusion
abbrev pub rule_23 : Clauses → State → FactStep → Option By
rule_23 sys s f = on f.target (λ target. on (slice_get s.obligations target) (λ (o : Obligation). if holds o (concluded sys f.seen) then None else Some (ByObligation target)))

-- 70: the premises are the instance's body
abbrev pub rule_70 : Clauses → State → DeriveStep → Option By
rule_70 sys s f = unless_body sys s f.seen f.premises

-- 71: the conclusion isn't recorded
abbrev pub rule_71 : Clauses → State → DeriveStep → Option By
rule_71 sys s f = if_recorded sys s f.seen
