-- What calls ask for: queries of an obligation or a lemma, and an area at an instance.
use Rattle.std.proofs.Common.{◌≡◌, ℕ, ◌-◌, ◌<◌, ◌^◌, zero, suc, List, [], ◌∷◌, length, Bool, true, false, ◌&&◌, ◌||◌, not, Some, None, refl, ap, sym, ◌∙◌, subst, arith}
use Rattle.std.specs.Prelude.{Option, ℤ, nat_le, nat_lt, option_map, slice_get, ◌==◌}
use Rattle.std.specs.List.{list_all}
use mathlib.Core.Bool.{true≢false}
use Rattle.term_tree.specs.declared.sort.Sort.{Sort}
use Rattle.lin_atoms.specs.Truth.{lit_is_below, lit_truth, truth}
use Rattle.lin_atoms.specs.declared.lit.Lit.{Lit}
use Rattle.clause_form.specs.System.{is_atom, is_clause}
use Rattle.clause_form.specs.System.{is_head as is_head_of}
use Rattle.clause_form.specs.declared.atom.Atom.{Atom}
use Rattle.clause_form.specs.declared.clause.Clause.{Clause}
use Rattle.clause_form.proofs.Public.{keeps, keeps_atom}
use Rattle.cube_forms.specs.Cubes.{cube_at, cube_is_below, has_room}
use Rattle.cube_forms.proofs.Public.{truth-cube_at}
use Rattle.lemma_frames.specs.Frames.{lemma_of, pred_of as pred_at}
use Rattle.lemma_frames.specs.declared.framed.Framed.{Framed as KeptLemma}
use Rattle.obligation_tree.specs.declared.obligation.Obligation.{Obligation as Asked}
use Rattle.chc_tokens.specs.Kept.{seen_clause, seen_point}
use Rattle.chc_tokens.specs.Queries.{goal_cube}
use Rattle.chc_tokens.specs.declared.goal.Goal.{Goal}
use Rattle.chc_tokens.specs.declared.goal.Goal.TheVariants.{Holds}
use Rattle.chc_tokens.specs.declared.seeing.Seen.{Seen}
use Rattle.book_rules.specs.Areas.{is_wide}
use Rattle.book_rules.specs.Frames.{Framed}
use Rattle.book_rules.specs.Instances.{atom_at, head_at}
use Rattle.book_rules.specs.Places.{is_over}
use Rattle.book_rules.specs.Proofs.{is_head}
use Rattle.book_rules.specs.Queries.{args_of}
use Rattle.book_rules.specs.State.{holds, holds_of}
use Rattle.book_rules.specs.Walks.{AllOf}
use Rattle.book_rules.proofs.ListLemmas.{all_at, all_of-at}
use Rattle.cube_rules.specs.Views.{framed_at, framed_of, lemmas_of}
use Rattle.cube_rules.proofs.Public.{both_true, framed_of-at, from_both}
use Rattle.area_literals.specs.Areas.{all_accept_on, all_fit_on, fits_on, is_on}
use Rattle.clause_queries.specs.Answers.{GoalFits, MayAskAll}
use Rattle.clause_queries.specs.Kept.{is_kept, lemma_is_kept}
use Rattle.clause_queries.specs.Uses.{uses}
use Rattle.clause_queries.proofs.Public.{IsUsable, cube-at, fits-on, head-goal, usable}
use Rattle.chc_tokens.specs.Tokens.{is_passed}
use Rattle.step_rules.specs.Standing.{Standing}
use Rattle.obligation_turn.specs.Turns.{GoesOn, IsOpenLeaf}
use Rattle.obligation_turn.specs.machinery.Jobs.{IsJobHit, goal_by, goal_for, job_of}
use Rattle.obligation_turn.proofs.BodyLemmas.{body-accepted}
use Rattle.obligation_turn.proofs.JobLemmas.{asked_at, job-bare, job-held, job-over, job-thin}
use Rattle.obligation_turn.proofs.StallLemmas.{goal-cube}
use Rattle.obligation_turn.proofs.TokenLemmas.{seen-is}

-- queries

fits-of : (b : Standing) (job : ℕ) (pred : Option ℕ) → GoesOn b → IsOpenLeaf b job → (job_of b job).pred ≡ pred → GoalFits b.system.preds pred (goal_by pred (job_of b job).cube)
fits-of b job None goes leaf is = refl
fits-of b job (Some p) goes leaf is = (p, refl, job-over b job p goes leaf is, job-thin b job goes leaf)

pub job-asks : (b : Standing) (job : ℕ) (goal : Goal) → GoesOn b → IsOpenLeaf b job → goal ≡ goal_for (job_of b job) → MayAskAll b.system b.frames.lemmas (job_of b job).pred goal
job-asks b job goal goes leaf is = record {
  numbered = (goes.standing).numbered.0;
  few = goes.few;
  over = ((goes.standing).over).lemmas;
  thin = (goes.thin).lemmas;
  fits = subst (GoalFits b.system.preds (job_of b job).pred) (sym is) (fits-of b job (job_of b job).pred goes leaf refl);
}

thin-at : (fs : List KeptLemma) (id : ℕ) → id < length fs → AllOf (λ (f : KeptLemma). is_wide f.lemma ≡ false) fs → is_wide (lemma_of fs id) ≡ false
thin-at [] id within all = absurd (omega arith)
thin-at (f ∷ fs) zero within all = all.0
thin-at (f ∷ fs) (suc id) within all = thin-at fs id (omega arith) all.1

pub lemma-asks : (b : Standing) (id pred : ℕ) (goal : Goal) → GoesOn b → id < length b.frames.lemmas → pred ≡ pred_at b.frames.lemmas id → goal ≡ Holds (lemma_of b.frames.lemmas id) → MayAskAll b.system b.frames.lemmas (Some pred) goal
lemma-asks b id pred goal goes within of_pred is =
    let fs = b.frames.lemmas in
    let over = all_of-at (λ (e : Framed). is_over b.system.preds e.lemma.pred e.lemma.cube ≡ true) (lemmas_of fs) id (framed_at fs id) (framed_of-at fs id within) ((goes.standing).over).lemmas in
    record {
      numbered = (goes.standing).numbered.0;
      few = goes.few;
      over = ((goes.standing).over).lemmas;
      thin = (goes.thin).lemmas;
      fits = subst (GoalFits b.system.preds (Some pred)) (sym is) (pred, refl, ap (λ (p : ℕ). is_over b.system.preds p (lemma_of fs id)) of_pred ∙ over, thin-at fs id within (goes.thin).lemmas);
    }

-- an area at an instance

all-from : {X : Type 0} (p : X → Bool) (xs : List X) → ((i : ℕ) (x : X) → slice_get xs i ≡ Some x → p x ≡ true) → list_all p xs ≡ true
all-from p [] f = refl
all-from p (x ∷ xs) f = from_both (p x) _ (f 0 x refl) (all-from p xs (λ i y there. f (suc i) y there))

atom-fits : (preds : List (List Sort)) (n k : ℕ) (atom : Atom) → is_atom preds n atom ≡ true → (fs : List KeptLemma) → AllOf (IsUsable preds) fs → all_fit_on k (lemmas_of fs) atom ≡ true
atom-fits preds n k atom one [] all = refl
atom-fits preds n k atom one (f ∷ fs) all =
    let is = all.0 in
    from_both (fits_on k atom (framed_of f)) _
    (by (is_on k atom (framed_of f)) (λ on. (let same = (both_true (nat_le k f.level) _ on).1 in let fits = fits-on preds n atom f.pred f.lemma one same is.over is.thin is.kept in from_both (cube_is_below (length atom.args) f.lemma) _ fits.places fits.room)))
    (atom-fits preds n k atom one fs all.1)
  where
    by : (b : Bool) → (b ≡ true → (cube_is_below (length atom.args) f.lemma && has_room atom.args f.lemma) ≡ true) → (not b || (cube_is_below (length atom.args) f.lemma && has_room atom.args f.lemma)) ≡ true
    by true g = g refl
    by false g = refl

head-true : (preds : List (List Sort)) (n : ℕ) (pred : Option ℕ) (cube : List Lit) (point : List ℤ) (head : Option Atom) → (pred ≡ None → cube ≡ []) → cube_is_below (length (args_of head)) cube ≡ true → holds_of pred cube (option_map (atom_at point) head) ≡ true
    → list_all (lit_truth point) (cube_at (args_of head) cube) ≡ true
head-true preds n None cube point head bare below h = ap (λ (c : List Lit). list_all (lit_truth point) (cube_at (args_of head) c)) (bare refl)
head-true preds n (Some p) cube point None bare below h = absurd (true≢false (sym h))
head-true preds n (Some p) cube point (Some atom) bare below h = truth-cube_at point atom.args cube below ∙ (both_true (p == atom.pred) _ h).1

pub record IsReady (b : Standing) (cube : List Lit) (k : ℕ) (clause : Clause) (point : List ℤ) : Type 0 where
  pub guard : truth point clause.guard ≡ true
  pub long : length point ≡ length clause.sorts
  pub head_room : has_room (args_of clause.head) cube ≡ true
  pub head : list_all (lit_truth point) (cube_at (args_of clause.head) cube) ≡ true
  pub head_below : list_all (lit_is_below (length clause.sorts)) (cube_at (args_of clause.head) cube) ≡ true
  pub room : list_all (all_fit_on k (lemmas_of b.frames.lemmas)) clause.atoms ≡ true
  pub holds : list_all (all_accept_on k point (lemmas_of b.frames.lemmas)) clause.atoms ≡ true

head-args : (preds : List (List Sort)) (n : ℕ) (head : Option Atom) → is_head_of preds n head ≡ true → list_all (λ v. nat_lt v n) (args_of head) ≡ true
head-args preds n None h = refl
head-args preds n (Some atom) h = (keeps_atom preds n atom h).below

pub ready : (b : Standing) (job : ℕ) (seen : Seen) (clause : Clause) → GoesOn b → IsOpenLeaf b job → IsJobHit b job seen → slice_get b.system.clauses (seen_clause seen) ≡ Some clause → is_clause b.system.preds clause ≡ true
    → list_all lemma_is_kept b.frames.lemmas ≡ true → is_kept (job_of b job).cube ≡ true → IsReady b (job_of b job).cube ((job_of b job).level - 1) clause (seen_point seen)
ready b job seen clause goes leaf hit there one kept cube_kept =
    let sys = b.system in
    let fs = b.frames.lemmas in
    let n = length clause.sorts in
    let point = seen_point seen in
    let pred = (job_of b job).pred in
    let cube = (job_of b job).cube in
    let k = (job_of b job).level - 1 in
    let its = keeps sys.preds clause one in
    let seen_is = seen-is sys seen (hit.instance).seen_is in
    let first : seen_is.clause ≡ clause = (let both = sym seen_is.there ∙ there in cc) in
    let second : (hit.at).clause ≡ clause = (let both = sym (hit.at).there ∙ there in cc) in
    let third : (hit.instance).clause ≡ clause = (let both = sym (hit.instance).there ∙ there in cc) in
    let headed : is_head pred clause.head ≡ true = ap (λ (c : Clause). is_head pred c.head) (sym second) ∙ (both_true (is_head pred ((hit.at).clause).head) _ (hit.at).asked).0 in
    let goal = goal_for (job_of b job) in
    let goal_is : goal_cube goal ≡ cube = goal-cube pred cube (job-bare b job goes leaf) in
    let at_head = head-goal sys.preds n pred goal clause.head (fits-of b job pred goes leaf refl) (ap is_kept goal_is ∙ cube_kept) headed its.head in
    let below : cube_is_below (length (args_of clause.head)) cube ≡ true = ap (cube_is_below (length (args_of clause.head))) (sym goal_is) ∙ at_head.0 in
    let held : holds (asked_at b job) (head_at point clause) ≡ true =
    ap (λ (c : Clause). holds (asked_at b job) (head_at point c)) (sym third) ∙ job-held b job (hit.instance).clause point (ap (λ (c : Clause). is_head pred c.head) third ∙ headed) (hit.instance).head in
    let body = subst (λ (c : Clause). list_all (is_passed point c) (uses k fs c) ≡ true) second (subst (λ (c : Clause). list_all (is_passed point c) (uses k fs (hit.at).clause) ≡ true) (third ∙ sym second) (hit.instance).body) in
    let all = usable sys.preds fs ((goes.standing).over).lemmas (goes.thin).lemmas kept in
    record {
      guard = ap (λ (c : Clause). truth point c.guard) (sym first) ∙ (seen_is.instance).guard;
      long = (seen_is.instance).whole ∙ ap (λ (c : Clause). length c.sorts) first;
      head_room = ap (has_room (args_of clause.head)) (sym goal_is) ∙ at_head.1;
      head = head-true sys.preds n pred cube point clause.head (job-bare b job goes leaf) below held;
      head_below = cube-at (λ v. nat_lt v n) (args_of clause.head) cube (head-args sys.preds n clause.head its.head) below;
      room = all-from (all_fit_on k (lemmas_of fs)) clause.atoms (λ i atom at. atom-fits sys.preds n k atom (all_at (is_atom sys.preds n) clause.atoms i atom at its.atoms) fs all);
      holds = body-accepted point clause k fs body;
    }

-- the same of what the code has in hand
pub ready-of : (b : Standing) (job n k : ℕ) (seen : Seen) (clause : Clause) (o : Asked) (point : List ℤ) → GoesOn b → IsOpenLeaf b job → IsJobHit b job seen → n ≡ seen_clause seen → slice_get b.system.clauses n ≡ Some clause → is_clause b.system.preds clause ≡ true
    → list_all lemma_is_kept b.frames.lemmas ≡ true → is_kept o.cube ≡ true → o ≡ job_of b job → k ≡ o.level - 1 → point ≡ seen_point seen → IsReady b o.cube k clause point
ready-of b job n k seen clause o point goes leaf hit number there one kept cube_kept is level at =
    let its = ready b job seen clause goes leaf hit (ap (slice_get b.system.clauses) (sym number) ∙ there) one kept (ap (λ (x : Asked). is_kept x.cube) (sym is) ∙ cube_kept) in
    subst (λ (p : List ℤ). IsReady b o.cube k clause p) (sym at) (subst (λ (m : ℕ). IsReady b o.cube m clause (seen_point seen)) (sym level)
    (subst (λ (x : Asked). IsReady b x.cube (x.level - 1) clause (seen_point seen)) (sym is) its))

-- the same over what is lent
pub ready-lent : (a b : Standing) (job n k : ℕ) (seen : Seen) (clause : Clause) (o : Asked) (point : List ℤ) → a ≡ b → GoesOn b → IsOpenLeaf b job → IsJobHit b job seen → n ≡ seen_clause seen → slice_get a.system.clauses n ≡ Some clause → is_clause a.system.preds clause ≡ true
    → list_all lemma_is_kept a.frames.lemmas ≡ true → is_kept o.cube ≡ true → o ≡ job_of a job → k ≡ o.level - 1 → point ≡ seen_point seen → IsReady a o.cube k clause point
ready-lent a b job n k seen clause o point same goes leaf hit number there one kept cube_kept is level at =
    ready-of a job n k seen clause o point (subst GoesOn (sym same) goes) (subst (λ (x : Standing). IsOpenLeaf x job) (sym same) leaf) (subst (λ (x : Standing). IsJobHit x job seen) (sym same) hit) number there one kept cube_kept is level at

few-at : (b : Standing) (n : ℕ) (clause : Clause) → GoesOn b → slice_get b.system.clauses n ≡ Some clause → length clause.atoms < 2 ^ 32
few-at b n clause goes there = all_of-at (λ (c : Clause). length c.atoms < 2 ^ 32) b.system.clauses n clause there goes.few

pub few-lent : (a b : Standing) (n : ℕ) (clause : Clause) (atoms : List Atom) → a ≡ b → GoesOn b → slice_get a.system.clauses n ≡ Some clause → atoms ≡ clause.atoms → length atoms < 2 ^ 32
few-lent a b n clause atoms same goes there is = subst (λ (xs : List Atom). length xs < 2 ^ 32) (sym is) (few-at a n clause (subst GoesOn (sym same) goes) there)
