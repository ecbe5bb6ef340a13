-- The step that asks a body atom's tuple further.
use Rattle.std.proofs.Common.{◌≡◌, ℕ, ◌-◌, ◌<◌, ◌≤◌, List, [], ◌∷◌, ◌++◌, length, filter, Bool, true, false, ◌&&◌, ◌||◌, not, cond, Some, None, refl, ap, sym, ◌∙◌, subst, arith, inl, inr}
use Rattle.std.specs.Prelude.{Option, ℤ, nat_le, nat_lt, option_map, slice_get, ◌==◌}
use Rattle.std.specs.List.{list_all, list_any}
use Rattle.std.proofs.lemmas.Bool.{eqb-true}
use Rattle.std.proofs.lemmas.Bool.Decides.{nat_tests}
use Rattle.std.proofs.lemmas.List.Folds.{list_all-append}
use mathlib.Core.Bool.{true≢false}
use Rattle.lin_atoms.specs.Truth.{lit_truth}
use Rattle.lin_atoms.specs.declared.lit.Lit.{Lit}
use Rattle.clause_form.specs.System.{Clauses, is_atom, is_clause, is_system}
use Rattle.clause_form.specs.System.{is_head as is_head_of}
use Rattle.clause_form.specs.declared.atom.Atom.{Atom}
use Rattle.clause_form.specs.declared.clause.Clause.{Clause}
use Rattle.clause_form.proofs.Public.{keeps, keeps_atom}
use Rattle.cube_forms.specs.Cubes.{cube_at, cube_holds, cube_is_below, lemma_at, tuple_at}
use Rattle.model_project.specs.Kept.{Kept}
use Rattle.chc_tokens.specs.Kept.{seen_clause, seen_point}
use Rattle.chc_tokens.specs.Tokens.{is_passed}
use Rattle.chc_tokens.specs.declared.seeing.Seen.{Seen}
use Rattle.book_rules.specs.Areas.{cover, is_among, is_area, is_of_frame, is_wide, knows, point_cube, projected_cube, same_variables, stands_in}
use Rattle.book_rules.specs.Frames.{Framed}
use Rattle.book_rules.specs.Instances.{Ground, atom_at, body_at, head_at}
use Rattle.book_rules.specs.Kept.{AreRecorded}
use Rattle.book_rules.specs.OpenRules.{atom_fits, atom_of, clause_fits, clause_of, has_fact_in, is_rival, rule_1, rule_2, rule_3, rule_4, rule_5, rule_6, rule_7, rule_8, rule_9, shut_out, tuple_of, unknown}
use Rattle.book_rules.specs.Places.{is_over_atom, places_of}
use Rattle.book_rules.specs.Proofs.{is_empty, is_head}
use Rattle.book_rules.specs.Queries.{args_of}
use Rattle.book_rules.specs.Same.{same_cube, same_tuple}
use Rattle.book_rules.specs.StallRules.{is_live_child}
use Rattle.book_rules.specs.State.{Fact, Obligation, holds, holds_of, is_child, is_live, same_conclusion}
use Rattle.book_rules.specs.Steps.{IsProjected, OpenStep as PlainOpen}
use Rattle.book_rules.specs.Walks.{AllOf, first_number, first_told, has, on, or_else}
use Rattle.book_rules.specs.declared.by.By.{By}
use Rattle.book_rules.specs.declared.by.By.TheVariants.{Fact as ByFact, Lemma as ByLemma, Obligation as ByObligation, Step as ByStep}
use Rattle.book_rules.proofs.ListLemmas.{all_at}
use Rattle.book_rules.proofs.OverLemmas.{atom_places}
use Rattle.book_rules.proofs.PlaceLemmas.{point_alone}
use Rattle.book_rules.proofs.Public.{cubes_equal, tuples_equal}
use Rattle.cube_rules.proofs.Public.{both_true, from_both}
use Rattle.area_literals.specs.Areas.{IsAreaOf, all_known_on, is_known_on, is_on}
use Rattle.clause_queries.specs.Uses.{uses}
use Rattle.clause_queries.proofs.Public.{either_left, either_right, own_number, same_some}
use Rattle.step_rules.specs.Standing.{Standing, standing_state}
use Rattle.step_rules.specs.Taken.{open_of}
use Rattle.step_rules.specs.declared.open_step.part.OpenPart.{OpenPart}
use Rattle.step_rules.specs.declared.step.Step.TheVariants.{OpenStep}
use Rattle.obligation_turn.specs.Turns.{GoesOn, IsOpenLeaf, IsTurn}
use Rattle.obligation_turn.specs.machinery.Bodies.{IsMissing, is_recorded}
use Rattle.obligation_turn.specs.machinery.Jobs.{IsJobHit, job_of}
use Rattle.obligation_turn.specs.machinery.Opens.{IsCubeOf}
use Rattle.obligation_turn.proofs.BodyLemmas.{body-accepted, body-inside}
use Rattle.obligation_turn.proofs.JobLemmas.{asked_at, job-childless, job-held, job-live, job-there}
use Rattle.obligation_turn.proofs.ListLemmas.{none-mapped}
use Rattle.obligation_turn.proofs.PlaceLemmas.{point-below, point-holds, point-thin, projected-below, projected-holds, tuple-long}
use Rattle.obligation_turn.proofs.RuleLemmas.{has-of, kept, none-so, passed, told-of, unmarked}

-- an area covers what the rules ask

area-stands : (clause : Clause) (cube : List Lit) (es : List Framed) (k : ℕ) (point : List ℤ) (lits : List Lit) → IsAreaOf clause cube es k point lits
    → list_all (λ lit. stands_in lit clause.guard || is_among (cube_at (args_of clause.head) cube) lit || is_of_frame es k clause.atoms lit) lits ≡ true
area-stands clause cube es k point lits area =
    let first : Lit → Bool = λ lit. stands_in lit clause.guard in
    let second : Lit → Bool = is_among (cube_at (args_of clause.head) cube) in
    let third : Lit → Bool = is_of_frame es k clause.atoms in
    let test : Lit → Bool = λ lit. stands_in lit clause.guard || is_among (cube_at (args_of clause.head) cube) lit || is_of_frame es k clause.atoms lit in
    ap (list_all test) area.is ∙ list_all-append test area.guard_lits (area.cube_lits ++ area.frame_lits)
    ∙ from_both _ _ (so first test (λ lit is. either_left (first lit || second lit) (third lit) (either_left (first lit) (second lit) is)) area.guard_lits area.of_guard)
    (list_all-append test area.cube_lits area.frame_lits
    ∙ from_both _ _ (so second test (λ lit is. either_left (first lit || second lit) (third lit) (either_right (first lit) (second lit) is)) area.cube_lits area.of_cube)
    (so third test (λ lit is. either_right (first lit || second lit) (third lit) is) area.frame_lits area.of_frame))
  where
    so : (p q : Lit → Bool) → ((x : Lit) → p x ≡ true → q x ≡ true) → (xs : List Lit) → list_all p xs ≡ true → list_all q xs ≡ true
    so p q f [] h = refl
    so p q f (x ∷ xs) h = let both = both_true (p x) _ h in from_both (q x) _ (f x both.0) (so p q f xs both.1)

-- and knows the lemmas

known-not : (on_it known : Bool) → (not on_it || known) ≡ true → (on_it && not known) ≡ false
known-not true true h = refl
known-not true false h = absurd (true≢false (sym h))
known-not false known h = refl

none-unknown : (es : List Framed) (k : ℕ) (o : PlainOpen) (atom : Atom) → all_known_on k es atom (o.area).lits ≡ true → unknown es k o atom ≡ None
none-unknown es k o atom h = none-mapped ByLemma (λ (e : Framed). nat_le k e.level && (e.lemma.pred == atom.pred) && not (knows o.area atom e.lemma.cube)) es (by es h)
  where
    by : (es : List Framed) → all_known_on k es atom (o.area).lits ≡ true → list_any (λ (e : Framed). nat_le k e.level && (e.lemma.pred == atom.pred) && not (knows o.area atom e.lemma.cube)) es ≡ false
    by [] h = refl
    by (e ∷ es) h =
        let both = both_true (is_known_on k atom e (o.area).lits) _ h in
        ap (λ b. b || list_any (λ (x : Framed). nat_le k x.level && (x.lemma.pred == atom.pred) && not (knows o.area atom x.lemma.cube)) es) (known-not (is_on k atom e) (cover (o.area).lits (lemma_at atom.args e.lemma.cube)) both.0) ∙ by es both.1

atoms-unknown : (es : List Framed) (k : ℕ) (o : PlainOpen) (atoms : List Atom) → list_all (λ atom. all_known_on k es atom (o.area).lits) atoms ≡ true → first_told (unknown es k o) atoms ≡ None
atoms-unknown es k o [] h = refl
atoms-unknown es k o (atom ∷ atoms) h =
    let both = both_true (all_known_on k es atom (o.area).lits) _ h in
    ap (λ (told : Option By). or_else told (first_told (unknown es k o) atoms)) (none-unknown es k o atom both.0) ∙ atoms-unknown es k o atoms both.1

-- no live sibling

filter-none : {X : Type 0} (p : X → Bool) (xs : List X) → list_any p xs ≡ false → filter p xs ≡ []
filter-none p [] h = refl
filter-none {X = X} p (x ∷ xs) h = by (p x) h (filter-none p xs)
  where
    by : (c : Bool) → (c || list_any p xs) ≡ false → (list_any p xs ≡ false → filter p xs ≡ []) → cond {A = List X} c (x ∷ filter p xs) (filter p xs) ≡ []
    by true k rest = absurd (true≢false k)
    by false k rest = rest k

rival-child : (o : PlainOpen) (child : Obligation) → is_rival o child ≡ true → is_live_child o.parent child ≡ true
rival-child o child h = (both_true (is_live child && is_child o.parent child) _ h).0

-- facts have a value for each place of their predicates

abbrev FactFits : Clauses → Fact → Type 0
FactFits sys f = (a : Ground) → f.conclusion ≡ Some a → places_of sys.preds (Some a.0) ≡ Some (length a.1)

head-fits : (sys : Clauses) (n : ℕ) (point : List ℤ) (head : Option Atom) (a : Ground) → is_head_of sys.preds n head ≡ true → option_map (atom_at point) head ≡ Some a → places_of sys.preds (Some a.0) ≡ Some (length a.1)
head-fits sys n point None a one is = absurd (cc)
head-fits sys n point (Some atom) a one is =
    let same : atom_at point atom ≡ a = cc in
    subst (λ (x : Ground). places_of sys.preds (Some x.0) ≡ Some (length x.1)) same (atom_places sys.preds n atom one ∙ ap (λ (k : ℕ). Some k) (sym (tuple-long point atom.args)))

recorded-fits : (sys : Clauses) → is_system sys ≡ true → (before facts : List Fact) → AreRecorded sys before facts → AllOf (FactFits sys) facts
recorded-fits sys system before [] are = tt
recorded-fits sys system before (f ∷ facts) are =
    let is = are.0 in
    let its = keeps sys.preds is.clause (all_at (is_clause sys.preds) sys.clauses f.clause is.clause is.there system) in
    ((λ a concluded. head-fits sys (length (is.clause).sorts) f.point (is.clause).head a its.head (is.head ∙ concluded)), recorded-fits sys system (before ++ f ∷ []) facts are.1)

-- so only the tuple's own fact lies in its cube

in-point : (sys : Clauses) (atom : Atom) (n : ℕ) (point : List ℤ) (f : Fact) → is_atom sys.preds n atom ≡ true → FactFits sys f → holds_of (Some atom.pred) (point_cube (tuple_at point atom.args)) f.conclusion ≡ true → same_conclusion f.conclusion (Some (atom_at point atom)) ≡ true
in-point sys atom n point f one fits h = by f.conclusion fits h
  where
    by : (c : Option Ground) → ((a : Ground) → c ≡ Some a → places_of sys.preds (Some a.0) ≡ Some (length a.1)) → holds_of (Some atom.pred) (point_cube (tuple_at point atom.args)) c ≡ true → same_conclusion c (Some (atom_at point atom)) ≡ true
    by None fits k = absurd (true≢false (sym k))
    by (Some a) fits k =
        let both = both_true (atom.pred == a.0) _ k in
        let pred : atom.pred ≡ a.0 = eqb-true atom.pred a.0 both.0 in
        let arity : Some (length atom.args) ≡ Some (length a.1) = sym (atom_places sys.preds n atom one) ∙ ap (λ (p : ℕ). places_of sys.preds (Some p)) pred ∙ fits a refl in
        let same : length atom.args ≡ length a.1 = same_some (length atom.args) (length a.1) arity in
        let long : length a.1 ≡ length (tuple_at point atom.args) = sym same ∙ sym (tuple-long point atom.args) in
        from_both (a.0 == atom.pred) _ (ap (λ (p : ℕ). p == atom.pred) (sym pred) ∙ own_number atom.pred) ((tuples_equal a.1 (tuple_at point atom.args)).1 (point_alone a.1 (tuple_at point atom.args) long both.1))

point-factless : (sys : Clauses) (atom : Atom) (n : ℕ) (point : List ℤ) → is_atom sys.preds n atom ≡ true → (facts : List Fact) → AllOf (FactFits sys) facts → is_recorded facts (atom_at point atom) ≡ false → has_fact_in facts atom.pred (point_cube (tuple_at point atom.args)) ≡ false
point-factless sys atom n point one [] fits h = refl
point-factless sys atom n point one (f ∷ facts) fits h =
    by (holds_of (Some atom.pred) (point_cube (tuple_at point atom.args)) f.conclusion) (same_conclusion f.conclusion (Some (atom_at point atom))) (in-point sys atom n point f one fits.0) h (point-factless sys atom n point one facts fits.1)
  where
    by : (c d : Bool) → (c ≡ true → d ≡ true) → (d || is_recorded facts (atom_at point atom)) ≡ false → (is_recorded facts (atom_at point atom) ≡ false → has_fact_in facts atom.pred (point_cube (tuple_at point atom.args)) ≡ false)
        → (c || has_fact_in facts atom.pred (point_cube (tuple_at point atom.args))) ≡ false
    by true d g k rest = absurd (true≢false (sym (ap (λ x. x || is_recorded facts (atom_at point atom)) (g refl)) ∙ k))
    by false true g k rest = absurd (true≢false k)
    by false false g k rest = rest k

-- what is known of the new cube

record IsNew (facts : List Fact) (atom : Atom) (area : Kept) (point : List ℤ) (cube : List Lit) : Type 0 where
  is_cube_of : (same_cube cube (projected_cube atom area) || (same_cube cube (point_cube (tuple_at point atom.args)) && (has_fact_in facts atom.pred (projected_cube atom area) || is_wide (projected_cube atom area)))) ≡ true
  holds_it : cube_holds (tuple_at point atom.args) cube ≡ true
  below : cube_is_below (length atom.args) cube ≡ true
  thin : is_wide cube ≡ false
  factless : has_fact_in facts atom.pred cube ≡ false

new-cube : (sys : Clauses) (facts : List Fact) (atom : Atom) (n : ℕ) (area : Kept) (point : List ℤ) (cube : List Lit) → is_atom sys.preds n atom ≡ true → AllOf (FactFits sys) facts → is_recorded facts (atom_at point atom) ≡ false
    → same_variables area.keep atom.args ≡ true → IsProjected area → area.model ≡ point → IsCubeOf facts atom area point cube → IsNew facts atom area point cube
new-cube sys facts atom n area point cube one fits missing same projected model (inl is) =
    let projects = projected.projects in
    let its = keeps_atom sys.preds n atom one in
    let has_model = ap (λ (p : List ℤ). list_all (lit_truth p) area.cube) (sym model) ∙ projects.has_model in
    subst (IsNew facts atom area point) (sym is.0) (record {
      is_cube_of = either_left (same_cube (projected_cube atom area) (projected_cube atom area)) _ ((cubes_equal (projected_cube atom area) (projected_cube atom area)).1 refl);
      holds_it = projected-holds point atom n area its.below same projects.variables has_model;
      below = projected-below atom area same projects.variables;
      thin = is.1;
      factless = is.2;
    })
new-cube sys facts atom n area point cube one fits missing same projected model (inr is) =
    let tuple = tuple_at point atom.args in
    subst (IsNew facts atom area point) (sym is.0) (record {
      is_cube_of = either_right (same_cube (point_cube tuple) (projected_cube atom area)) _ (from_both (same_cube (point_cube tuple) (point_cube tuple)) _ ((cubes_equal (point_cube tuple) (point_cube tuple)).1 refl) is.1);
      holds_it = point-holds tuple;
      below = point-below tuple (length atom.args) (tuple-long point atom.args);
      thin = point-thin tuple;
      factless = point-factless sys atom n point one facts fits missing;
    })

-- the level

not-empty : {X : Type 0} (xs : List X) (n : ℕ) (x : X) → slice_get xs n ≡ Some x → is_empty xs ≡ false
not-empty [] n x there = absurd (cc)
not-empty (y ∷ xs) n x there = refl

high : (level : ℕ) (e : Bool) → (nat_lt 0 (level - 1) || e) ≡ true → e ≡ false → nat_lt level 2 ≡ false
high level true h none = absurd (true≢false none)
high level false h none =
    let is : nat_lt 0 (level - 1) ≡ true = by (nat_lt 0 (level - 1)) h in
    let above : 0 < level - 1 = grind (arith, nat_tests, is) in
    le-not level 2 (omega (arith, above))
  where
    by : (b : Bool) → (b || false) ≡ true → b ≡ true
    by true k = refl
    by false k = absurd (true≢false (sym k))

    le-not : (m n : ℕ) → n ≤ m → nat_lt m n ≡ false
    le-not m n k = grind (arith, nat_tests, k)

pub opens : (b : Standing) (job nodes number : ℕ) (seen : Seen) (atom : Atom) (cube : List Lit) (area : Kept) → GoesOn b → IsOpenLeaf b job → is_system b.system ≡ true → (hit : IsJobHit b job seen)
    → slice_get hit.at.clause.atoms number ≡ Some atom → is_recorded (standing_state b).facts (atom_at (seen_point seen) atom) ≡ false
    → IsAreaOf hit.at.clause (job_of b job).cube (standing_state b).lemmas ((job_of b job).level - 1) (seen_point seen) area.lits → area.model ≡ seen_point seen → same_variables area.keep atom.args ≡ true → IsProjected area
    → IsCubeOf (standing_state b).facts atom area (seen_point seen) cube → IsTurn b job nodes (OpenStep (record { parent = job; atom = number; seen = seen; cube = cube; area = area }))
opens b job nodes number seen atom cube area goes leaf system hit at missing covers model variables projected cube_of =
    let sys = b.system in
    let s = standing_state b in
    let p = asked_at b job in
    let k = p.level - 1 in
    let point = seen_point seen in
    let part : OpenPart = record { parent = job; atom = number; seen = seen; cube = cube; area = area } in
    let o : PlainOpen = open_of part in
    let clause = hit.at.clause in
    let there = hit.at.there in
    let instance = hit.instance in
    let same : instance.clause ≡ clause = (let both = sym instance.there ∙ there in cc) in
    let its = keeps sys.preds clause (all_at (is_clause sys.preds) sys.clauses (seen_clause seen) clause there system) in
    let one = all_at (is_atom sys.preds (length clause.sorts)) clause.atoms number atom at its.atoms in
    let asked = both_true (is_head p.pred clause.head) _ hit.at.asked in
    let new = new-cube sys s.facts atom (length clause.sorts) area point cube one (recorded-fits sys system [] s.facts goes.recorded) missing variables projected model cube_of in
    let found = job-there b job leaf in
    let atom_there : atom_of sys o ≡ Some atom = ap (λ (x : Option Clause). on x (λ (c : Clause). slice_get c.atoms number)) there ∙ at in
    let body = subst (λ (c : Clause). list_all (is_passed point c) (uses k b.frames.lemmas clause) ≡ true) same instance.body in
    let childless = job-childless b job goes leaf in
    let area_is : is_area clause point atom p.cube s.lemmas k area ≡ true =
    from_both (same_variables area.keep atom.args && same_tuple area.model point && cover area.lits clause.guard && list_all (is_among area.lits) (cube_at (args_of clause.head) p.cube)) _
    (from_both (same_variables area.keep atom.args && same_tuple area.model point && cover area.lits clause.guard) _
    (from_both (same_variables area.keep atom.args && same_tuple area.model point) _
    (from_both (same_variables area.keep atom.args) _ variables ((tuples_equal area.model point).1 model)) covers.guard) covers.head)
    (area-stands clause p.cube s.lemmas k point area.lits covers) in
    let fits : clause_fits s o p clause ≡ true =
    from_both (is_head p.pred clause.head) _ asked.0 (has-of (slice_get clause.atoms number) atom (atom_fits s o p clause) at (from_both (is_area clause point atom p.cube s.lemmas k area) _ area_is new.is_cube_of)) in
    let held : holds p (head_at point clause) ≡ true = ap (λ (c : Clause). holds p (head_at point c)) (sym same) ∙ job-held b job instance.clause point (ap (λ (c : Clause). is_head p.pred c.head) same ∙ asked.0) instance.head in
    let r1 = job-live b job leaf in
    let r2 : rule_2 s o ≡ None =
    told-of (slice_get s.obligations job) p (λ (x : Obligation). cond (nat_lt x.level 2) (Some (ByObligation job)) None) found
    (unmarked (nat_lt p.level 2) (ByObligation job) (high p.level (is_empty clause.atoms) asked.1 (not-empty clause.atoms number atom at))) in
    let r3 : rule_3 sys s o ≡ None =
    told-of (slice_get s.obligations job) p (λ (x : Obligation). cond (has (clause_of sys o) (clause_fits s o x)) None (Some ByStep)) found
    (passed (has (clause_of sys o) (clause_fits s o p)) ByStep (has-of (clause_of sys o) clause (clause_fits s o p) there fits)) in
    let both_held : (has (clause_of sys o) (λ clause. holds p (head_at point clause)) && has (atom_of sys o) (λ atom. cube_holds (tuple_of o atom) cube)) ≡ true =
    from_both (has (clause_of sys o) (λ clause. holds p (head_at point clause))) _ (has-of (clause_of sys o) clause (λ (c : Clause). holds p (head_at point c)) there held)
    (has-of (atom_of sys o) atom (λ (a : Atom). cube_holds (tuple_of o a) cube) atom_there new.holds_it) in
    let r4 : rule_4 sys s o ≡ None =
    told-of (slice_get s.obligations job) p (λ (x : Obligation). cond (has (clause_of sys o) (λ clause. holds x (head_at point clause)) && has (atom_of sys o) (λ atom. cube_holds (tuple_of o atom) cube)) None (Some (ByObligation job))) found
    (passed (has (clause_of sys o) (λ clause. holds p (head_at point clause)) && has (atom_of sys o) (λ atom. cube_holds (tuple_of o atom) cube)) (ByObligation job) both_held) in
    let r5 : rule_5 sys s o ≡ None =
    told-of (slice_get s.obligations job) p (λ (x : Obligation). on (clause_of sys o) (λ clause. first_told (shut_out s.lemmas (x.level - 1)) (body_at point clause))) found
    (told-of (clause_of sys o) clause (λ (c : Clause). first_told (shut_out s.lemmas k) (body_at point c)) there (body-inside point clause k s.lemmas (body-accepted point clause k b.frames.lemmas body))) in
    let r6 : rule_6 sys s o ≡ None =
    told-of (atom_of sys o) atom (λ (a : Atom). option_map ByFact (first_number (λ (f : Fact). holds_of (Some a.pred) cube f.conclusion) s.facts)) atom_there
    (none-mapped ByFact (λ (f : Fact). holds_of (Some atom.pred) cube f.conclusion) s.facts new.factless) in
    let r7 : rule_7 sys s o ≡ None =
    told-of (atom_of sys o) atom (λ (a : Atom). option_map ByObligation (first_number (λ (child : Obligation). is_rival o child && (child.atom == number) && cube_holds (tuple_of o a) child.cube) s.obligations)) atom_there
    (none-mapped ByObligation (λ (child : Obligation). is_rival o child && (child.atom == number) && cube_holds (tuple_of o atom) child.cube) s.obligations
    (none-so (λ (child : Obligation). is_rival o child && (child.atom == number) && cube_holds (tuple_of o atom) child.cube) (is_live_child job)
    (λ child h. rival-child o child (both_true (is_rival o child) _ (both_true (is_rival o child && (child.atom == number)) _ h).0).0) s.obligations childless)) in
    let no_rivals : list_any (is_rival o) s.obligations ≡ false = none-so (is_rival o) (is_live_child job) (rival-child o) s.obligations childless in
    let r8 : rule_8 s o ≡ None = ap (λ (rivals : List Obligation). cond {A = Option By} (nat_le 4 (length rivals)) (option_map ByObligation (first_number (is_rival o) s.obligations)) None) (filter-none (is_rival o) s.obligations no_rivals) in
    let r9 : rule_9 sys s o ≡ None =
    told-of (slice_get s.obligations job) p (λ (x : Obligation). on (clause_of sys o) (λ clause. first_told (unknown s.lemmas (x.level - 1) o) clause.atoms)) found
    (told-of (clause_of sys o) clause (λ (c : Clause). first_told (unknown s.lemmas k o) c.atoms) there (atoms-unknown s.lemmas k o clause.atoms covers.known)) in
    record {
      unbroken = kept 1 (rule_1 s o) _ r1 (kept 2 (rule_2 s o) _ r2 (kept 3 (rule_3 sys s o) _ r3 (kept 4 (rule_4 sys s o) _ r4 (kept 5 (rule_5 sys s o) _ r5
          (kept 6 (rule_6 sys s o) _ r6 (kept 7 (rule_7 sys s o) _ r7 (kept 8 (rule_8 s o) _ r8 (kept 9 (rule_9 sys s o) None r9 refl))))))));
      made = instance.seen_is;
      places = ap (λ (x : Option Atom). is_over_atom sys.preds x cube) atom_there ∙ ap (λ (x : Option ℕ). has x (λ m. cube_is_below m cube)) (atom_places sys.preds (length clause.sorts) atom one) ∙ new.below;
      projected = projected;
      counts = tt;
      thin = new.thin;
      serves = (refl, clause, there, covers);
      sought = tt;
    }

-- the same of what the code has in hand
pub opens-of : (b : Standing) (job nodes number : ℕ) (seen : Seen) (atom : Atom) (cube : List Lit) (area : Kept) → GoesOn b → IsOpenLeaf b job → is_system b.system ≡ true → IsJobHit b job seen → (missing : IsMissing b.system (standing_state b).facts seen number)
    → atom ≡ missing.atom
    → ((clause : Clause) → slice_get b.system.clauses (seen_clause seen) ≡ Some clause → IsAreaOf clause (job_of b job).cube (standing_state b).lemmas ((job_of b job).level - 1) (seen_point seen) area.lits)
    → area.model ≡ seen_point seen → same_variables area.keep atom.args ≡ true → IsProjected area → IsCubeOf (standing_state b).facts atom area (seen_point seen) cube
    → IsTurn b job nodes (OpenStep (record { parent = job; atom = number; seen = seen; cube = cube; area = area }))
opens-of b job nodes number seen atom cube area goes leaf system hit missing is covers model variables projected cube_of =
    let clause = (hit.at).clause in
    let there = (hit.at).there in
    let first : missing.clause ≡ clause = (let both = sym missing.there ∙ there in cc) in
    let at : slice_get clause.atoms number ≡ Some atom = ap (λ (c : Clause). slice_get c.atoms number) (sym first) ∙ missing.at ∙ ap (λ (a : Atom). Some a) (sym is) in
    opens b job nodes number seen atom cube area goes leaf system hit at (ap (λ (a : Atom). is_recorded (standing_state b).facts (atom_at (seen_point seen) a)) is ∙ missing.missing) (covers clause there) model variables projected cube_of
