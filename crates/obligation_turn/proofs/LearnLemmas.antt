-- The step where every clause is refuted: the lemma that denies the obligation's cube.
use Rattle.std.proofs.Common.{◌≡◌, ℕ, ◌-◌, ◌≤◌, List, true, ◌&&◌, cond, Some, None, refl, ap, sym, ◌∙◌, subst, arith}
use Rattle.std.specs.Prelude.{Option, nat_le, slice_get}
use Rattle.std.specs.List.{list_all}
use Rattle.std.proofs.lemmas.Bool.Decides.{nat_tests}
use Rattle.lin_atoms.specs.declared.lit.Lit.{Lit}
use Rattle.cube_forms.specs.Cubes.{cube_holds}
use Rattle.obligation_tree.specs.declared.obligation.Obligation.{Obligation as Asked}
use Rattle.chc_tokens.specs.declared.refuting.Shown.{Shown}
use Rattle.book_rules.specs.Frames.{Lemma}
use Rattle.book_rules.specs.LemmaRules.{closes, rule_10, rule_11, rule_12, rule_13, rule_14}
use Rattle.book_rules.specs.Places.{places_of, shown_has_places}
use Rattle.book_rules.proofs.Public.{over-within}
use Rattle.book_rules.specs.State.{Obligation, is_of}
use Rattle.book_rules.specs.Steps.{LemmaStep as PlainLemma}
use Rattle.book_rules.specs.declared.by.By.TheVariants.{Level as ByLevel, Obligation as ByObligation}
use Rattle.cube_rules.proofs.Public.{from_both}
use Rattle.clause_queries.specs.Answers.{AreProofs}
use Rattle.clause_queries.proofs.Public.{own_number}
use Rattle.step_rules.specs.Standing.{Standing, standing_state}
use Rattle.step_rules.specs.Taken.{learn_of}
use Rattle.step_rules.specs.Tokens.{all_shown}
use Rattle.step_rules.specs.declared.lemma_step.part.LemmaPart.{LemmaPart}
use Rattle.step_rules.specs.declared.step.Step.TheVariants.{LemmaStep}
use Rattle.obligation_turn.specs.Turns.{GoesOn, IsOpenLeaf, IsTurn}
use Rattle.obligation_turn.specs.machinery.Jobs.{AreJobProofs, goal_by, job_of}
use Rattle.obligation_turn.proofs.JobLemmas.{asked_at, job-level, job-live, job-over, job-placed, job-there, job-thin}
use Rattle.obligation_turn.proofs.ProvedLemmas.{proved}
use Rattle.obligation_turn.proofs.RuleLemmas.{kept, passed, told-of}

le-test : (m n : ℕ) → m ≤ n → nat_le m n ≡ true
le-test m n h = grind (arith, nat_tests, h)

pub learnt : (b : Standing) (job nodes pred : ℕ) (proofs : List Shown) → GoesOn b → IsOpenLeaf b job → (job_of b job).pred ≡ Some pred → AreJobProofs b job proofs
    → IsTurn b job nodes (LemmaStep (record { target = job; pred = pred; lemma = (job_of b job).cube; level = (job_of b job).level; proofs = proofs }))
learnt b job nodes pred proofs goes leaf some are =
    let s = standing_state b in
    let o = asked_at b job in
    let lemma : Lemma = record { pred = pred; cube = o.cube } in
    let part : LemmaPart = record { target = job; pred = pred; lemma = o.cube; level = o.level; proofs = proofs } in
    let l : PlainLemma = learn_of part in
    let k = o.level - 1 in
    let over = ((goes.standing).over).lemmas in
    let claimed = job-over b job pred goes leaf some in
    let its = subst (λ (p : Option ℕ). AreProofs b.system b.frames.lemmas p (goal_by p o.cube) k proofs) some are in
    let is = proved b.system b.frames.lemmas k (Some lemma) (Some lemma) proofs over claimed its in
    let level = job-level b job pred goes leaf some in
    let placed = job-placed b job pred goes leaf some in
    let low = le-test 1 o.level level.0 in
    let high = le-test o.level b.level level.1 in
    let own = le-test o.level o.level (omega arith) in
    let closing : closes lemma o.level o ≡ true =
    from_both (is_of pred o.pred && nat_le o.level o.level) (cube_holds o.point o.cube) (from_both (is_of pred o.pred) (nat_le o.level o.level) (ap (is_of pred) some ∙ own_number pred) own) placed.in_cube in
    let r10 = passed (nat_le 1 o.level && nat_le o.level b.level) (ByLevel b.level) (from_both (nat_le 1 o.level) _ low high) in
    let r13 = job-live b job leaf in
    let r14 : rule_14 s l ≡ None = told-of (slice_get s.obligations job) o (λ (p : Obligation). cond (closes lemma o.level p) None (Some (ByObligation job))) (job-there b job leaf) (passed (closes lemma o.level o) (ByObligation job) closing) in
    record {
      unbroken = kept 10 (rule_10 s l) _ r10 (kept 11 (rule_11 b.system l) _ is.unshown (kept 12 (rule_12 b.system s l) _ is.misused (kept 13 (rule_13 s l) _ r13 (kept 14 (rule_14 s l) None r14 refl))));
      made = is.made;
      places = from_both _ (list_all (shown_has_places b.system) (all_shown proofs)) (over-within (places_of b.system.preds (Some pred)) o.cube claimed) is.places;
      projected = tt;
      counts = tt;
      thin = job-thin b job goes leaf;
      serves = refl;
      sought = tt;
    }

-- the same of what the code has in hand
pub learnt-of : (b : Standing) (job nodes pred : ℕ) (o : Asked) (lemma : List Lit) (proofs : List Shown) → GoesOn b → IsOpenLeaf b job → o ≡ job_of b job → o.pred ≡ Some pred → lemma ≡ o.cube → AreJobProofs b job proofs
    → IsTurn b job nodes (LemmaStep (record { target = job; pred = pred; lemma = lemma; level = o.level; proofs = proofs }))
learnt-of b job nodes pred o lemma proofs goes leaf is some same are =
    subst (λ (cube : List Lit). IsTurn b job nodes (LemmaStep (record { target = job; pred = pred; lemma = cube; level = o.level; proofs = proofs }))) (sym (same ∙ ap (λ (x : Asked). x.cube) is))
    (subst (λ (n : ℕ). IsTurn b job nodes (LemmaStep (record { target = job; pred = pred; lemma = (job_of b job).cube; level = n; proofs = proofs }))) (sym (ap (λ (x : Asked). x.level) is))
    (learnt b job nodes pred proofs goes leaf (ap (λ (x : Asked). x.pred) (sym is) ∙ some) are))
