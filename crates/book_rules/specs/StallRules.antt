-- The rules of Stall, by their numbers: what breaks each of them, if anything.
use Rattle.std.specs.Prelude.{ℕ, ◌-◌, List, Bool, ◌&&◌, ◌||◌, not, ◌==◌, Option, Some, None, is_some, option_map, if◌then◌else◌, slice_get}
use Rattle.std.specs.List.{list_all}
use Rattle.clause_form.specs.System.{Clauses}
use Rattle.clause_form.specs.declared.clause.Clause.{Clause}
use Rattle.book_rules.specs.declared.by.By.{By}
use Rattle.book_rules.specs.declared.by.By.TheVariants.{Obligation as ByObligation, Clause as ByClause, Step as ByStep}
use Rattle.book_rules.specs.Same.{same_form}
use Rattle.book_rules.specs.Walks.{first_number, on, has}
use Rattle.book_rules.specs.Proofs.{is_empty, is_head, all_may_use}
use Rattle.book_rules.specs.Queries.{Used, query}
use Rattle.book_rules.specs.State.{Obligation, State, is_live, is_child, unless_live}
use Rattle.book_rules.specs.Steps.{StallStep}

abbrev pub target_of : State → StallStep → Option Obligation
target_of s t = slice_get s.obligations t.target

-- 50: the target is live
abbrev pub rule_50 : State → StallStep → Option By
rule_50 s t = unless_live (target_of s t)

-- whether an obligation is live and hangs directly under the one of that number
abbrev pub is_live_child : ℕ → Obligation → Bool
is_live_child parent child = is_live child && is_child parent child

-- 51: it has no live child; the oldest is told
abbrev pub rule_51 : State → StallStep → Option By
rule_51 s t = option_map ByObligation (first_number (is_live_child t.target) s.obligations)

abbrev pub has_used_atoms : Clause → List Used → Bool
has_used_atoms clause used = list_all (λ (u : Used). is_some (slice_get clause.atoms u.atom)) used

-- the query of the obligation through the clause: at level 1 it has no body atom
abbrev pub query_fits : StallStep → Obligation → Clause → Bool
query_fits t o clause =
    has_used_atoms clause t.used && is_head o.pred clause.head && same_form t.evidence.form (query clause o.cube t.used) && (not (o.level == 1) || is_empty clause.atoms)

-- 52: the clause and the used atoms are there, its head is of the target's predicate, and the evidence is of the query of clause, used lemmas and cube; at level 1 the clause has no body atom
abbrev pub rule_52 : Clauses → State → StallStep → Option By
rule_52 sys s t = on (target_of s t) (λ (o : Obligation). if has (slice_get sys.clauses t.clause) (query_fits t o) then None else Some ByStep)

-- 53: each used lemma is in F(its level - 1)
abbrev pub rule_53 : Clauses → State → StallStep → Option By
rule_53 sys s t = on (target_of s t) (λ (o : Obligation). if all_may_use sys s.lemmas (o.level - 1) None t.clause t.used then None else Some (ByClause t.clause))

-- 54: the target isn't stalled
abbrev pub rule_54 : State → StallStep → Option By
rule_54 s t = on (target_of s t) (λ (o : Obligation). if o.stalled then Some (ByObligation t.target) else None)
