-- The step where a query is given up.
use Rattle.std.proofs.Common.{◌≡◌, ℕ, ◌-◌, List, [], ◌∷◌, true, ◌&&◌, cond, Some, None, refl, ap, sym, ◌∙◌}
use Rattle.std.specs.Prelude.{Option, is_some, slice_get}
use Rattle.std.specs.List.{list_all}
use Rattle.lin_atoms.specs.declared.lit.Lit.{Lit}
use Rattle.lin_atoms.specs.declared.form.Form.{Form}
use Rattle.lin_atoms.specs.declared.form.Form.TheViews.{And}
use Rattle.refutation_trees.specs.KeptEvidence.{given_form}
use Rattle.clause_form.specs.declared.clause.Clause.{Clause}
use Rattle.chc_tokens.specs.Queries.{base as token_base, goal_cube, has_places, has_used, query as token_query, query_in}
use Rattle.chc_tokens.specs.declared.goal.Goal.{Goal}
use Rattle.chc_tokens.specs.declared.used.Used.{Used as UsedLemma}
use Rattle.book_rules.specs.Places.{used_has_places}
use Rattle.book_rules.specs.Proofs.{all_may_use, is_empty, is_head}
use Rattle.book_rules.specs.Queries.{query}
use Rattle.book_rules.specs.Same.{same_form}
use Rattle.book_rules.specs.StallRules.{has_used_atoms, is_live_child, query_fits, rule_50, rule_51, rule_52, rule_53, rule_54}
use Rattle.book_rules.specs.State.{Obligation}
use Rattle.book_rules.specs.Steps.{StallStep as PlainStall}
use Rattle.book_rules.specs.Walks.{has}
use Rattle.book_rules.specs.declared.by.By.TheVariants.{Clause as ByClause, Obligation as ByObligation, Step as ByStep}
use Rattle.book_rules.proofs.Public.{forms_equal}
use Rattle.cube_rules.proofs.Public.{both_true, from_both}
use Rattle.clause_queries.specs.Answers.{IsLost}
use Rattle.clause_queries.specs.declared.lost.Lost.{Lost}
use Rattle.step_rules.specs.Standing.{Standing, standing_state}
use Rattle.step_rules.specs.Taken.{stall_of}
use Rattle.step_rules.specs.Tokens.{all_used}
use Rattle.step_rules.specs.declared.stall_step.part.StallPart.{StallPart}
use Rattle.step_rules.specs.declared.step.Step.TheVariants.{StallStep}
use Rattle.obligation_turn.specs.Turns.{GoesOn, IsOpenLeaf, IsTurn}
use Rattle.obligation_turn.specs.machinery.Jobs.{goal_by, goal_for, job_of}
use Rattle.obligation_turn.proofs.JobLemmas.{asked_at, job-bare, job-childless, job-live, job-there}
use Rattle.obligation_turn.proofs.ListLemmas.{none-mapped}
use Rattle.obligation_turn.proofs.ProvedLemmas.{uses-may, uses-over}
use Rattle.obligation_turn.proofs.RuleLemmas.{has-of, kept, low-empty, passed, told-of, unmarked}
use Rattle.obligation_turn.proofs.TokenLemmas.{atom-there, forms-alike, query-there}

pub goal-cube : (pred : Option ℕ) (cube : List Lit) → (pred ≡ None → cube ≡ []) → goal_cube (goal_by pred cube) ≡ cube
goal-cube None cube bare = sym (bare refl)
goal-cube (Some p) cube bare = refl

used-atoms : (clause : Clause) (used : List UsedLemma) → has_used clause.atoms used ≡ true → has_used_atoms clause (all_used used) ≡ true
used-atoms clause [] h = refl
used-atoms clause (u ∷ used) h =
    let both = both_true (has_places (slice_get clause.atoms u.atom) u.lemma) _ h in
    from_both (is_some (slice_get clause.atoms u.atom)) _ (atom-there (slice_get clause.atoms u.atom) u.lemma both.0) (used-atoms clause used both.1)

-- both words for a query
query-alike : (clause : Clause) (goal : Goal) (cube : List Lit) (used : List UsedLemma) → goal_cube goal ≡ cube → token_query clause goal used ≡ query clause cube (all_used used)
query-alike clause goal cube used is =
    ap (λ (forms : List Form). And (token_base clause goal ∷ forms)) (forms-alike clause.atoms used) ∙ ap (λ (c : List Lit). query clause c (all_used used)) is

pub stalled : (b : Standing) (job nodes : ℕ) (lost : Lost) → GoesOn b → IsOpenLeaf b job → IsLost b.system b.frames.lemmas (job_of b job).pred (goal_for (job_of b job)) ((job_of b job).level - 1) nodes lost
    → IsTurn b job nodes (StallStep (record { target = job; clause = lost.clause; used = lost.used; evidence = lost.evidence }))
stalled b job nodes lost goes leaf is =
    let s = standing_state b in
    let o = asked_at b job in
    let part : StallPart = record { target = job; clause = lost.clause; used = lost.used; evidence = lost.evidence } in
    let t : PlainStall = stall_of part in
    let clause = is.at.clause in
    let there = is.at.there in
    let up = is.given_up in
    let goal = goal_for (job_of b job) in
    let k = o.level - 1 in
    let over = ((goes.standing).over).lemmas in
    let asked = both_true (is_head o.pred clause.head) _ is.at.asked in
    let form = given_form lost.evidence in
    let uses_there : query_in (Some clause) goal lost.used ≡ Some form = ap (λ (found : Option Clause). query_in found goal lost.used) (sym there) ∙ up.form in
    let parts = query-there clause goal lost.used form uses_there in
    let same : form ≡ query clause o.cube (all_used lost.used) = sym parts.1 ∙ query-alike clause goal o.cube lost.used (goal-cube o.pred o.cube (job-bare b job goes leaf)) in
    let fits : query_fits t o clause ≡ true =
    from_both (has_used_atoms clause (all_used lost.used) && is_head o.pred clause.head && same_form form (query clause o.cube (all_used lost.used))) _
    (from_both (has_used_atoms clause (all_used lost.used) && is_head o.pred clause.head) _
    (from_both (has_used_atoms clause (all_used lost.used)) _ (used-atoms clause lost.used parts.0) asked.0)
    ((forms_equal form (query clause o.cube (all_used lost.used))).1 same))
    (low-empty o.level (is_empty clause.atoms) asked.1) in
    let may : all_may_use b.system s.lemmas k None lost.clause (all_used lost.used) ≡ true =
    uses-may b.system k b.frames.lemmas None lost.clause clause lost.used is.under over there in
    let found = job-there b job leaf in
    let r50 = job-live b job leaf in
    let r51 = none-mapped ByObligation (is_live_child job) s.obligations (job-childless b job goes leaf) in
    let r52 : rule_52 b.system s t ≡ None =
    told-of (slice_get s.obligations job) o (λ (p : Obligation). cond (has (slice_get b.system.clauses lost.clause) (query_fits t p)) None (Some ByStep)) found
    (passed (has (slice_get b.system.clauses lost.clause) (query_fits t o)) ByStep (has-of (slice_get b.system.clauses lost.clause) clause (query_fits t o) there fits)) in
    let r53 : rule_53 b.system s t ≡ None =
    told-of (slice_get s.obligations job) o (λ (p : Obligation). cond (all_may_use b.system s.lemmas (p.level - 1) None lost.clause (all_used lost.used)) None (Some (ByClause lost.clause))) found
    (passed (all_may_use b.system s.lemmas k None lost.clause (all_used lost.used)) (ByClause lost.clause) may) in
    let r54 : rule_54 s t ≡ None = told-of (slice_get s.obligations job) o (λ (p : Obligation). cond p.stalled (Some (ByObligation job)) None) found (unmarked o.stalled (ByObligation job) leaf.unmarked) in
    record {
      unbroken = kept 50 (rule_50 s t) _ r50 (kept 51 (rule_51 s t) _ r51 (kept 52 (rule_52 b.system s t) _ r52 (kept 53 (rule_53 b.system s t) _ r53 (kept 54 (rule_54 s t) None r54 refl))));
      made = tt;
      places = uses-over b.system k b.frames.lemmas lost.clause clause lost.used is.under over there;
      projected = tt;
      counts = up.counts;
      thin = tt;
      serves = refl;
      sought = is;
    }
