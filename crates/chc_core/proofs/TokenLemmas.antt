-- What the tokens of a step stand for holds of the system that they were made for.
use Rattle.std.proofs.Common.{◌≡◌, ℤ, List, [], ◌∷◌, map, length, Bool, true, false, cond, not, ◌&&◌, Some, None, refl, ap, sym, ◌∙◌}
use Rattle.std.specs.Prelude.{Option, is_some, option_map, slice_get}
use Rattle.std.specs.List.{list_all}
use Rattle.std.proofs.lemmas.Bool.{eqb-true}
use Rattle.std.proofs.lemmas.Option.{slice_get-map}
use Rattle.base.specs.Widths.{is_short}
use Rattle.lin_atoms.specs.Truth.{truth}
use Rattle.lin_atoms.specs.declared.form.Form.{Form}
use Rattle.lin_atoms.specs.declared.form.Form.TheViews.{And}
use Rattle.lin_atoms.specs.declared.lit.Lit.{Lit}
use Rattle.clause_form.specs.System.{Clauses}
use Rattle.clause_form.specs.declared.atom.Atom.{Atom}
use Rattle.clause_form.specs.declared.clause.Clause.{Clause}
use Rattle.cube_forms.specs.Cubes.{cube_holds, lemma_at, tuple_at}
use Rattle.farkas_proof.specs.Kept.{form_of}
use Rattle.refutation_trees.specs.KeptEvidence.{given_form}
use Rattle.chc_tokens.specs.Instances.{accepts, token_args, token_atom_at, has_values, token_head_at, is_broken, is_instance_of, may_be_instance}
use Rattle.chc_tokens.specs.Kept.{kept_lemma, kept_why, seen_clause, seen_point, shown_clause, shown_goal, shown_proof, shown_used}
use Rattle.chc_tokens.specs.Queries.{base as token_base, goal_has_room, has_goal, has_places, has_used, may_use, query as token_query, query_in, used_form, used_have_room}
use Rattle.chc_tokens.specs.Tokens.{IsKept, IsNoLift, IsShownToken, breaks_in, is_passed, is_seen, token_meets}
use Rattle.chc_tokens.specs.declared.goal.Goal.{Goal}
use Rattle.chc_tokens.specs.declared.goal.Goal.TheVariants.{Query, Holds}
use Rattle.chc_tokens.specs.declared.keeping.NoLift.{NoLift as NoLiftToken}
use Rattle.chc_tokens.specs.declared.refuting.Shown.{Shown as ShownToken}
use Rattle.chc_tokens.specs.declared.seeing.Seen.{Seen as SeenToken}
use Rattle.chc_tokens.specs.declared.used.Used.{Used as UsedLemma}
use Rattle.chc_tokens.specs.declared.why.Why.{Why as WhyKept}
use Rattle.chc_tokens.specs.declared.why.Why.TheVariants.{Broken as BrokenBy, Unknown as UnknownBy}
use Rattle.chc_tokens.proofs.QueryLemmas.{shows}
use Rattle.book_rules.specs.Queries.{Used}
use Rattle.book_rules.specs.Steps.{Carries, IsSeen, IsUnknown, IsWhy, Shows, accepts_used, meets}
use Rattle.book_rules.specs.Walks.{AllOf, has}
use Rattle.book_rules.proofs.ListLemmas.{both_true, from_both}
use Rattle.step_rules.specs.Taken.{AreProjected, IsMadeFor, step_of}
use Rattle.step_rules.specs.Tokens.{all_no_lifts, all_shown, all_used, goal_of, left_of, no_lift_of, seen_of, shown_of, used_of, why_of}
use Rattle.step_rules.specs.declared.step.Step.{Step}
use Rattle.step_rules.specs.declared.step.Step.TheVariants.{OpenStep, LemmaStep, FactStep, LiftStep, RaiseStep, StallStep, DeriveStep, StrengthenStep}

-- an instance
pub seen-is : (sys : Clauses) (seen : SeenToken) → is_seen sys seen ≡ true → IsSeen sys (seen_of seen)
seen-is sys seen h = by (slice_get sys.clauses (seen_clause seen)) refl halves.0 where
  halves : (is_instance_of sys (seen_clause seen) (seen_point seen) ≡ true) × (list_all is_short (seen_point seen) ≡ true)
  halves = both_true (is_instance_of sys (seen_clause seen) (seen_point seen)) (list_all is_short (seen_point seen)) h

  by : (found : Option Clause) → slice_get sys.clauses (seen_clause seen) ≡ found → may_be_instance found (seen_point seen) ≡ true → IsSeen sys (seen_of seen)
  by None is there = absurd (cc)
  by (Some clause) is there =
      let both = both_true (has_values clause (seen_point seen)) (truth (seen_point seen) clause.guard) there in
      record { clause = clause; there = is; instance = record { whole = eqb-true (length (seen_point seen)) (length clause.sorts) both.0; guard = both.1 }; short = halves.1 }

-- a used lemma accepts its atom's tuple alike in both
used-alike : (point : List ℤ) (clause : Clause) (u : UsedLemma) → is_some (slice_get clause.atoms u.atom) ≡ true → is_passed point clause u ≡ accepts_used point clause.atoms (used_of u)
used-alike point clause u there = ap (accepts u.lemma) (slice_get-map (token_atom_at point) clause.atoms u.atom) ∙ by (slice_get clause.atoms u.atom) there where
  by : (found : Option Atom) → is_some found ≡ true → accepts u.lemma (option_map (token_atom_at point) found) ≡ not (has found (λ (atom : Atom). cube_holds (tuple_at point atom.args) u.lemma))
  by None never = absurd (cc)
  by (Some atom) is = refl

-- where the atom isn't there the two differ (chc_tokens passes nothing there, the rules all), but IsShownToken says that it is: has_used of query_at

goal-alike : (point : List ℤ) (goal : Goal) (clause : Clause) → token_meets goal (token_head_at point clause) ≡ meets point clause.head (goal_of goal)
goal-alike point Query clause = refl
goal-alike point (Holds lemma) clause = by clause.head where
  by : (head : Option Atom) → accepts lemma (option_map (token_atom_at point) head) ≡ meets point head (Some lemma)
  by None = refl
  by (Some atom) = refl

-- what a query that is there says of its parts

chosen : (b : Bool) (form found : Form) → cond {A = Option Form} b (Some form) None ≡ Some found → (b ≡ true) × (form ≡ found)
chosen true form found h = (refl, cc)
chosen false form found h = absurd (cc)

atom-there : (found : Option Atom) (cube : List Lit) → has_places found cube ≡ true → is_some found ≡ true
atom-there None cube h = absurd (cc)
atom-there (Some atom) cube h = refl

-- the used lemmas have their atoms, and the form is the query's
query-there : (clause : Clause) (goal : Goal) (used : List UsedLemma) (form : Form) → query_in (Some clause) goal used ≡ Some form → (has_used clause.atoms used ≡ true) × (token_query clause goal used ≡ form)
query-there clause goal used form h =
    let found = chosen (has_goal clause goal && may_use clause goal used) (token_query clause goal used) form h in
    let there = both_true (has_goal clause goal) (may_use clause goal used) found.0 in
    let rest = both_true (has_used clause.atoms used && goal_has_room clause goal) (used_have_room clause.atoms used) there.1 in
    ((both_true (has_used clause.atoms used) (goal_has_room clause goal) rest.0).0, found.1)

all-passed : (point : List ℤ) (clause : Clause) (used : List UsedLemma) → has_used clause.atoms used ≡ true → list_all (accepts_used point clause.atoms) (all_used used) ≡ true → list_all (is_passed point clause) used ≡ true
all-passed point clause [] there passed = refl
all-passed point clause (u ∷ used) there passed =
    let atoms = both_true (has_places (slice_get clause.atoms u.atom) u.lemma) (has_used clause.atoms used) there in
    let both = both_true (accepts_used point clause.atoms (used_of u)) (list_all (accepts_used point clause.atoms) (all_used used)) passed in
    from_both (is_passed point clause u) (list_all (is_passed point clause) used)
    (used-alike point clause u (atom-there (slice_get clause.atoms u.atom) u.lemma atoms.0) ∙ both.0)
    (all-passed point clause used atoms.1 both.1)

-- a refuted query
pub shown-shows : (sys : Clauses) (shown : ShownToken) → IsShownToken sys shown → Shows sys (shown_of shown)
shown-shows sys shown h clause point there instance passed =
    let form = form_of (shown_proof shown) in
    let here : query_in (Some clause) (shown_goal shown) (shown_used shown) ≡ Some form = ap (λ (o : Option Clause). query_in o (shown_goal shown) (shown_used shown)) (sym there) ∙ h in
    let uses = query-there clause (shown_goal shown) (shown_used shown) form here in
    sym (goal-alike point (shown_goal shown) clause)
    ∙ shows sys (shown_clause shown) (shown_goal shown) (shown_used shown) form h (shown_proof shown).no_point clause there point instance.guard (all-passed point clause (shown_used shown) uses.0 passed)

-- what keeps a lemma from being lifted

broken-alike : (point : List ℤ) (lemma : List Lit) (head : Option Atom) → has head (λ (atom : Atom). cube_holds (tuple_at point atom.args) lemma) ≡ is_broken lemma (option_map (token_atom_at point) head)
broken-alike point lemma None = refl
broken-alike point lemma (Some atom) = refl

forms-alike : (atoms : List Atom) (used : List UsedLemma) → map (used_form atoms) used ≡ map (λ (u : Used). lemma_at (token_args (slice_get atoms u.atom)) u.cube) (all_used used)
forms-alike atoms [] = refl
forms-alike atoms (u ∷ used) = ap (λ (forms : List Form). used_form atoms u ∷ forms) (forms-alike atoms used)

why-is : (sys : Clauses) (lemma : List Lit) (why : WhyKept) → IsKept sys lemma why → IsWhy sys lemma (why_of why)
why-is sys lemma (BrokenBy seen) kept =
    let is = seen-is sys seen kept.0 in
    let breaks_there : is_broken lemma (option_map (token_atom_at (seen_point seen)) (is.clause).head) ≡ true = ap (λ (o : Option Clause). breaks_in o (seen_point seen) lemma) (sym is.there) ∙ kept.2 in
    record { is_seen = is; broken = broken-alike (seen_point seen) lemma (is.clause).head ∙ breaks_there }
why-is sys lemma (UnknownBy number used evidence) kept = by (slice_get sys.clauses number) refl kept where
  by : (found : Option Clause) → slice_get sys.clauses number ≡ found → query_in found (Holds lemma) used ≡ Some (given_form evidence) → IsUnknown sys lemma number (all_used used) (left_of evidence)
  by None is h = absurd (cc)
  by (Some clause) is h = record {
    clause = clause;
    there = is;
    of_query = sym (query-there clause (Holds lemma) used (given_form evidence) h).1 ∙ ap (λ (forms : List Form). And (token_base clause (Holds lemma) ∷ forms)) (forms-alike clause.atoms used);
    is_left = evidence.given_up;
  }

pub no_lift-is : (sys : Clauses) (kept : NoLiftToken) → IsNoLift sys kept → IsWhy sys (no_lift_of kept).cube (no_lift_of kept).why
no_lift-is sys kept h = why-is sys (kept_lemma kept) (kept_why kept) h

all-shown : (sys : Clauses) (proofs : List ShownToken) → AllOf (IsShownToken sys) proofs → AllOf (Shows sys) (all_shown proofs)
all-shown sys [] h = tt
all-shown sys (p ∷ proofs) h = (shown-shows sys p h.0, all-shown sys proofs h.1)

all-kept : (sys : Clauses) (kept : List NoLiftToken) → AllOf (IsNoLift sys) kept → AllOf (λ k. IsWhy sys k.cube k.why) (all_no_lifts kept)
all-kept sys [] h = tt
all-kept sys (k ∷ kept) h = (no_lift-is sys k h.0, all-kept sys kept h.1)

pub carries : (sys : Clauses) (step : Step) → IsMadeFor sys step → AreProjected step → Carries sys (step_of step)
carries sys (OpenStep o) made area = (seen-is sys o.seen made, area)
carries sys (LemmaStep l) made area = all-shown sys l.proofs made
carries sys (FactStep f) made area = seen-is sys f.seen made
carries sys (LiftStep l) made area = all-shown sys l.proofs made
carries sys (RaiseStep r) made area = (all-shown sys r.closed made.0, all-kept sys r.kept made.1)
carries sys (StallStep t) made area = t.evidence.given_up
carries sys (DeriveStep f) made area = seen-is sys f.seen made
carries sys (StrengthenStep l) made area = all-shown sys l.proofs made
