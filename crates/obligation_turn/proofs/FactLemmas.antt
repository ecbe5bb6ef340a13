-- The step where the body of an instance is recorded: its head is a fact.
use Rattle.std.proofs.Common.{◌≡◌, ℕ, List, true, false, cond, Some, None, refl, ap, sym, ◌∙◌}
use Rattle.std.specs.Prelude.{Option, is_none, slice_get}
use Rattle.std.specs.List.{list_any}
use mathlib.Core.Bool.{true≢false}
use Rattle.lin_atoms.specs.declared.lit.Lit.{Lit}
use Rattle.clause_form.specs.declared.clause.Clause.{Clause}
use Rattle.chc_tokens.specs.Kept.{seen_clause, seen_point}
use Rattle.chc_tokens.specs.declared.seeing.Seen.{Seen}
use Rattle.book_rules.specs.FactRules.{are_facts_of, concluded, rule_20, rule_21, rule_22, rule_23}
use Rattle.book_rules.specs.Instances.{Ground, body_at, head_at}
use Rattle.book_rules.specs.Legal.{sat, spent, stuck, unsat}
use Rattle.book_rules.specs.Proofs.{is_head}
use Rattle.book_rules.specs.State.{Fact, Obligation, holds, holds_of, same_conclusion}
use Rattle.book_rules.specs.Steps.{FactStep as PlainFact}
use Rattle.book_rules.specs.Walks.{has, on, or_else}
use Rattle.book_rules.specs.declared.by.By.TheVariants.{Fact as ByFact, Obligation as ByObligation, Step as ByStep}
use Rattle.book_rules.specs.declared.end.End.TheVariants.{Unsat}
use Rattle.book_rules.proofs.ListLemmas.{neither, untold_passes}
use Rattle.cube_rules.proofs.Public.{both_true}
use Rattle.step_rules.specs.Standing.{Standing, standing_state}
use Rattle.step_rules.specs.Taken.{record_of}
use Rattle.step_rules.specs.declared.fact_step.part.FactPart.{FactPart}
use Rattle.step_rules.specs.declared.step.Step.TheVariants.{FactStep}
use Rattle.obligation_turn.specs.Turns.{GoesOn, IsOpenLeaf, IsTurn}
use Rattle.obligation_turn.specs.machinery.Jobs.{IsJobHit, job_of}
use Rattle.obligation_turn.proofs.JobLemmas.{asked_at, job-held, job-live, job-placed, job-there}
use Rattle.obligation_turn.proofs.ListLemmas.{none-mapped}
use Rattle.obligation_turn.proofs.RuleLemmas.{conclusion-is, has-of, kept, none-so, passed, told-of}

held-false : (cube : List Lit) (c : Option Ground) → holds_of None cube c ≡ true → is_none c ≡ true
held-false cube None h = refl
held-false cube (Some a) h = absurd (true≢false (sym h))

factless-of : (b : Standing) (job : ℕ) (pred : Option ℕ) → GoesOn b → IsOpenLeaf b job → (job_of b job).pred ≡ pred → list_any (λ (f : Fact). holds (asked_at b job) f.conclusion) (standing_state b).facts ≡ false
factless-of b job (Some pred) goes leaf is = (job-placed b job pred goes leaf is).without_fact
factless-of b job None goes leaf is =
    let s = standing_state b in
    let none = (neither (unsat s) (or_else (sat s) (or_else (spent s) (stuck s))) goes.goes_on).0 in
    none-so (λ (f : Fact). holds (asked_at b job) f.conclusion) (λ (f : Fact). is_none f.conclusion)
    (λ f h. held-false (job_of b job).cube f.conclusion (ap (λ (p : Option ℕ). holds_of p (job_of b job).cube f.conclusion) (sym is) ∙ h)) s.facts
    (untold_passes Unsat (λ (f : Fact). is_none f.conclusion) s.facts none)

-- no recorded fact is what the obligation asks for
pub factless : (b : Standing) (job : ℕ) → GoesOn b → IsOpenLeaf b job → list_any (λ (f : Fact). holds (asked_at b job) f.conclusion) (standing_state b).facts ≡ false
factless b job goes leaf = factless-of b job (job_of b job).pred goes leaf refl

pub recorded : (b : Standing) (job nodes : ℕ) (seen : Seen) (premises : List ℕ) → GoesOn b → IsOpenLeaf b job → (hit : IsJobHit b job seen) → are_facts_of (standing_state b).facts premises (body_at (seen_point seen) hit.at.clause) ≡ true
    → IsTurn b job nodes (FactStep (record { target = Some job; seen = seen; premises = premises }))
recorded b job nodes seen premises goes leaf hit are =
    let s = standing_state b in
    let o = asked_at b job in
    let part : FactPart = record { target = Some job; seen = seen; premises = premises } in
    let f : PlainFact = record_of part in
    let clause = hit.at.clause in
    let there = hit.at.there in
    let point = seen_point seen in
    let instance = hit.instance in
    let same : instance.clause ≡ clause = (let both = sym instance.there ∙ there in cc) in
    let head : concluded b.system f.seen ≡ head_at point clause = ap (λ (found : Option Clause). on found (λ (c : Clause). head_at point c)) there in
    let headed = (both_true (is_head o.pred clause.head) _ hit.at.asked).0 in
    let held : holds o (concluded b.system f.seen) ≡ true =
    ap (holds o) head ∙ ap (λ (c : Clause). holds o (head_at point c)) (sym same) ∙ job-held b job instance.clause point (ap (λ (c : Clause). is_head o.pred c.head) same ∙ headed) instance.head in
    let r20 = passed (has (slice_get b.system.clauses (seen_clause seen)) (λ (c : Clause). are_facts_of s.facts premises (body_at point c))) ByStep
    (has-of (slice_get b.system.clauses (seen_clause seen)) clause (λ (c : Clause). are_facts_of s.facts premises (body_at point c)) there are) in
    let r21 = none-mapped ByFact (λ (old : Fact). same_conclusion old.conclusion (concluded b.system f.seen)) s.facts
    (none-so (λ (old : Fact). same_conclusion old.conclusion (concluded b.system f.seen)) (λ (old : Fact). holds o old.conclusion)
    (λ old h. ap (holds o) (conclusion-is old.conclusion (concluded b.system f.seen) h) ∙ held) s.facts (factless b job goes leaf)) in
    let r22 = job-live b job leaf in
    let r23 : rule_23 b.system s f ≡ None =
    told-of (slice_get s.obligations job) o (λ (p : Obligation). cond (holds p (concluded b.system f.seen)) None (Some (ByObligation job))) (job-there b job leaf) (passed (holds o (concluded b.system f.seen)) (ByObligation job) held) in
    record {
      unbroken = kept 20 (rule_20 b.system s f) _ r20 (kept 21 (rule_21 b.system s f) _ r21 (kept 22 (rule_22 b.system s f) _ r22 (kept 23 (rule_23 b.system s f) None r23 refl)));
      made = instance.seen_is;
      places = refl;
      projected = tt;
      counts = tt;
      thin = tt;
      serves = refl;
      sought = tt;
    }
