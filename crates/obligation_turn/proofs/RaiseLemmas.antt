-- The step of the root whose queries are refuted: a Lift, or a Raise where no lemma can be lifted.
use Rattle.std.proofs.Common.{◌≡◌, ℕ, ◌-◌, ◌≤◌, zero, suc, List, [], ◌∷◌, take, length, Bool, true, false, cond, Some, None, refl, ap, sym, ◌∙◌, subst, arith}
use Rattle.std.specs.Prelude.{Option}
use Rattle.std.specs.List.{list_all}
use mathlib.Core.Bool.{true≢false}
use Rattle.clause_form.specs.System.{Clauses}
use Rattle.chc_tokens.specs.Tokens.{IsShownToken}
use Rattle.chc_tokens.specs.declared.goal.Goal.TheVariants.{Query}
use Rattle.chc_tokens.specs.declared.keeping.NoLift.{NoLift as NoLiftToken}
use Rattle.chc_tokens.specs.declared.refuting.Shown.{Shown}
use Rattle.book_rules.specs.Frames.{AreRefuted, Framed}
use Rattle.book_rules.specs.Instances.{instances}
use Rattle.book_rules.specs.Places.{no_lift_has_places, shown_has_places}
use Rattle.book_rules.specs.RaiseRules.{below, below_from, evidence_outside, first_pair, in_places, is_no_lift_of, rule_40, rule_41, rule_42, rule_43, rule_44, seen_outside}
use Rattle.book_rules.specs.State.{State}
use Rattle.book_rules.specs.Steps.{NoLift as PlainNoLift, RaiseStep as PlainRaise, Shows}
use Rattle.book_rules.specs.Walks.{AllOf, or_else}
use Rattle.book_rules.specs.declared.by.By.{By}
use Rattle.book_rules.specs.declared.by.By.TheVariants.{Lemma as ByLemma}
use Rattle.book_rules.proofs.ProofLemmas.{are_refuted}
use Rattle.cube_rules.specs.Views.{lemmas_of}
use Rattle.cube_rules.proofs.Public.{from_both, length-lemmas}
use Rattle.clause_queries.specs.Answers.{AreProofs}
use Rattle.step_rules.specs.Standing.{Standing, standing_state}
use Rattle.step_rules.specs.Taken.{raise_of}
use Rattle.step_rules.specs.Tokens.{all_no_lifts, all_shown}
use Rattle.step_rules.specs.declared.lift_step.part.LiftPart.{LiftPart}
use Rattle.step_rules.specs.declared.raise_step.part.RaisePart.{RaisePart}
use Rattle.step_rules.specs.declared.step.Step.TheVariants.{LiftStep, RaiseStep}
use Rattle.obligation_turn.specs.Turns.{AreSought, GoesOn, IsOpenLeaf, IsTurn}
use Rattle.obligation_turn.specs.machinery.Jobs.{AreJobProofs, goal_by, job_of}
use Rattle.obligation_turn.specs.machinery.Lifts.{AreKept, ArePairs, IsLegalLift}
use Rattle.obligation_turn.proofs.JobLemmas.{root-level}
use Rattle.obligation_turn.proofs.ProvedLemmas.{IsProved, proved}
use Rattle.obligation_turn.proofs.RuleLemmas.{kept}
use Rattle.obligation_turn.proofs.TokenLemmas.{shown-shows}

-- the queries of the root

pub root-proved : (b : Standing) (job : ℕ) (closed : List Shown) → GoesOn b → IsOpenLeaf b job → (job_of b job).pred ≡ None → AreJobProofs b job closed → IsProved b.system (lemmas_of b.frames.lemmas) b.level None None closed
root-proved b job closed goes leaf none are =
    let its = subst (λ (p : Option ℕ). AreProofs b.system b.frames.lemmas p (goal_by p (job_of b job).cube) ((job_of b job).level - 1) closed) none are in
    let high = root-level b job goes leaf none in
    let level : (job_of b job).level - 1 ≡ b.level = omega (arith, high) in
    proved b.system b.frames.lemmas b.level None None closed ((goes.standing).over).lemmas tt (subst (λ (k : ℕ). AreProofs b.system b.frames.lemmas None Query k closed) level its)

all-show : (sys : Clauses) (proofs : List Shown) → AllOf (IsShownToken sys) proofs → AllOf (Shows sys) (all_shown proofs)
all-show sys [] h = tt
all-show sys (p ∷ proofs) h = (shown-shows sys p h.0, all-show sys proofs h.1)

pub root-refuted : (b : Standing) (closed : List Shown) → IsProved b.system (lemmas_of b.frames.lemmas) b.level None None closed → AreRefuted (instances b.system) (lemmas_of b.frames.lemmas) b.level
root-refuted b closed is = are_refuted b.system (lemmas_of b.frames.lemmas) b.level (all_shown closed) (all-show b.system closed is.made) is.unshown is.misused

-- a Lift
pub lifted : (b : Standing) (job nodes : ℕ) (closed : List Shown) (part : LiftPart) → GoesOn b → IsOpenLeaf b job → (job_of b job).pred ≡ None → AreJobProofs b job closed → IsLegalLift b part → IsTurn b job nodes (LiftStep part)
lifted b job nodes closed part goes leaf none are legal = record {
  unbroken = legal.unbroken;
  made = legal.made;
  places = legal.places;
  projected = tt;
  counts = tt;
  thin = tt;
  serves = (none, root-refuted b closed (root-proved b job closed goes leaf none are));
  sought = tt;
}

-- a Raise

placed-pairs : (sys : Clauses) (s : State) (es : List (ℕ × Framed)) (ks : List PlainNoLift) → ArePairs sys s es ks → in_places sys es ks ≡ None
placed-pairs sys s [] [] are = refl
placed-pairs sys s [] (k ∷ ks) are = absurd are
placed-pairs sys s (e ∷ es) [] are = absurd are
placed-pairs sys s (e ∷ es) (k ∷ ks) are = by (is_no_lift_of sys (e.1).lemma k) (are.0).of_lemma (placed-pairs sys s es ks are.1)
  where
    by : (b : Bool) → b ≡ true → in_places sys es ks ≡ None → cond {A = Option By} b (in_places sys es ks) (Some (ByLemma e.0)) ≡ None
    by true is h = h
    by false is h = absurd (true≢false (sym is))

seen-pairs : (sys : Clauses) (s : State) (es : List (ℕ × Framed)) (ks : List PlainNoLift) → ArePairs sys s es ks → first_pair (seen_outside sys s) es ks ≡ None
seen-pairs sys s [] ks are = refl
seen-pairs sys s (e ∷ es) [] are = refl
seen-pairs sys s (e ∷ es) (k ∷ ks) are = ap (λ (o : Option By). or_else o (first_pair (seen_outside sys s) es ks)) (are.0).inside ∙ seen-pairs sys s es ks are.1

known-pairs : (sys : Clauses) (s : State) (es : List (ℕ × Framed)) (ks : List PlainNoLift) → ArePairs sys s es ks → first_pair (evidence_outside sys s) es ks ≡ None
known-pairs sys s [] ks are = refl
known-pairs sys s (e ∷ es) [] are = refl
known-pairs sys s (e ∷ es) (k ∷ ks) are = ap (λ (o : Option By). or_else o (first_pair (evidence_outside sys s) es ks)) (are.0).known ∙ known-pairs sys s es ks are.1

take-all : {X : Type 0} (xs : List X) (n : ℕ) → length xs ≤ n → take n xs ≡ xs
take-all [] zero past = refl
take-all [] (suc n) past = refl
take-all (x ∷ xs) zero past = absurd (omega arith)
take-all (x ∷ xs) (suc n) past = ap (λ ys. x ∷ ys) (take-all xs n (omega arith))

pub raised : (b : Standing) (job nodes n : ℕ) (closed : List Shown) (tokens : List NoLiftToken) → GoesOn b → IsOpenLeaf b job → (job_of b job).pred ≡ None → AreJobProofs b job closed → length b.frames.lemmas ≤ n → AreKept b nodes n tokens
    → IsTurn b job nodes (RaiseStep (record { closed = closed; kept = tokens }))
raised b job nodes n closed tokens goes leaf none are past keeps =
    let sys = b.system in
    let s = standing_state b in
    let part : RaisePart = record { closed = closed; kept = tokens } in
    let r : PlainRaise = raise_of part in
    let is = root-proved b job closed goes leaf none are in
    let long = length-lemmas b.frames.lemmas in
    let all = take-all (lemmas_of b.frames.lemmas) n (omega (arith, long, past)) in
    let pairs : ArePairs sys s (below s) (all_no_lifts tokens) = subst (λ (es : List Framed). ArePairs sys s (below_from b.level 0 es) (all_no_lifts tokens)) all keeps.pairs in
    let r42 = placed-pairs sys s (below s) (all_no_lifts tokens) pairs in
    let r43 = seen-pairs sys s (below s) (all_no_lifts tokens) pairs in
    let r44 = known-pairs sys s (below s) (all_no_lifts tokens) pairs in
    record {
      unbroken = kept 40 (rule_40 sys s r) _ is.unshown (kept 41 (rule_41 sys s r) _ is.misused (kept 42 (rule_42 sys s r) _ r42 (kept 43 (rule_43 sys s r) _ r43 (kept 44 (rule_44 sys s r) None r44 refl))));
      made = (is.made, keeps.no_lifts);
      places = from_both (list_all (shown_has_places sys) (all_shown closed)) (list_all (no_lift_has_places sys) (all_no_lifts tokens)) is.places keeps.places;
      projected = tt;
      counts = keeps.counts;
      thin = tt;
      serves = (none, root-refuted b closed is);
      sought = subst (λ (es : List Framed). AreSought b nodes (below_from b.level 0 es) tokens) all keeps.sought;
    }
